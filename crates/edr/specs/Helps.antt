-- How the program is used, as it tells it.
use Rattle.std.specs.Prelude.{ℕ, List, ◌++◌, codes}

-- the usage line, without its line feed
abbrev pub usage : List ℕ
usage = codes "usage: edr ask TARGET | replay FEED [--advance] | check [--summary] [--why] | make NUMBER | work NUMBER | show [--why] | fetch URL [--why] | import | export TARGET | --help | --version"

-- a line for each command
abbrev pub command_lines : List ℕ
command_lines =
    codes "ask TARGET                  answer the target from the last edition of the feed on standard input\n"
    ++ codes "replay FEED [--advance]     serve standard input as a connection, from the editions of the feed in the file\n"
    ++ codes "check [--summary]           tell how many editions the feed on standard input has, or what each has\n"
    ++ codes "make NUMBER                 write the feed that is made of the number\n"
    ++ codes "work NUMBER                 make that feed, read it, and tell of its edition and of four answers\n"
    ++ codes "show                        write the table of the document of CoverageJSON on standard input\n"
    ++ codes "fetch URL                   ask the server of the URL, and write the table of the document in its reply\n"
    ++ codes "import                      write the feed of the table of observations on standard input\n"
    ++ codes "export TARGET               write the values that the last edition of the feed on standard input answers, as a table\n"
    ++ codes "--why                       with check, show and fetch: say too why there is no feed, document or reply\n"
    ++ codes "--help                      write this\n"
    ++ codes "--version                   write the version\n"

-- what `--help` writes
abbrev pub help : List ℕ
help = usage ++ (codes "\n" ++ command_lines)
