-- What tells how the daemon is asked: the usage line, and a line an option.
use Rattle.std.specs.Prelude.{ℕ, ◌++◌, List, codes}

abbrev pub usage : List ℕ
usage = codes "usage: edrd FEED --port P [--workers W] [--every S] [--connections C] [--idle I] [--requests R] [--last]"

-- the end of the usage line, and the lines behind it
abbrev pub options : List ℕ
options =
    codes "\n" ++ (codes "  --port P         the port of 127.0.0.1, 0 to 65535; 0 lets the system choose one\n"
    ++ (codes "  --workers W      connections that are served at once, 1 to 64; else 2\n"
    ++ (codes "  --every S        seconds before each further edition is served, 0 to 86400; else 60\n"
    ++ (codes "  --connections C  connections that each worker serves, up to 1000000; else 0, no end of them\n"
    ++ (codes "  --idle I         seconds that a connection may be idle, 1 to 86400; else 30\n"
    ++ (codes "  --requests R     requests that a connection may have, 1 to 1000; else 100\n"
    ++ (codes "  --last           serves the last edition of the feed from the start\n"
    ++ (codes "  --help           writes these lines, where it stands alone\n"
    ++ codes "  --version        writes the version, where it stands alone\n"))))))))

abbrev pub help : List ℕ
help = usage ++ options
