-- The limits of the daemon, each by its name, and what stands for the numbers that words leave out.
use Rattle.std.specs.Prelude.{ℕ}

-- a port
abbrev pub port_limit : ℕ
port_limit = 65_535

-- the workers, and so the doors
abbrev pub worker_limit : ℕ
worker_limit = 64

abbrev pub default_workers : ℕ
default_workers = 2

-- the pause before each publish, in seconds
abbrev pub pause_limit : ℕ
pause_limit = 86_400

abbrev pub default_pause : ℕ
default_pause = 60

-- how long a connection may be idle, in seconds
abbrev pub idle_limit : ℕ
idle_limit = 86_400

abbrev pub default_idle : ℕ
default_idle = 30

-- the requests of a connection, at most as many as a session takes
abbrev pub request_limit : ℕ
request_limit = 1_000

abbrev pub default_requests : ℕ
default_requests = 100

-- the connections of each worker that words ask for
abbrev pub connection_limit : ℕ
connection_limit = 1_000_000

-- so many are no end of them, which words ask for where they leave the number out
abbrev pub endless : ℕ
endless = 0

-- the connections that an acceptor hands out, also where no end of them is asked for
abbrev pub accept_limit : ℕ
accept_limit = 1_000_000_000_000

-- the editions that a gate lets pass
abbrev pub grant_limit : ℕ
grant_limit = 1_000_000_000_000
