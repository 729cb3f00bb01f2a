-- What a URL asks for: of which server, and by which bytes (URL Standard, section 4; RFC 9110, section 7; RFC 9112, section 3).
use Rattle.std.specs.Prelude.{ℕ, nat_eq, nat_le, ◌&&◌, List, [], ◌++◌, length, codes, bytes_eq, option_map, unwrap_or, Ok, Err, None, Some, if◌then◌else◌}
use Rattle.std.specs.declared.option.Option.{Option}
use Rattle.std.specs.Fmt.{decimal}
use Rattle.std.specs.Str.{is_utf8}
use Rattle.url.specs.declared.host.Host.{Host}
use Rattle.url.specs.Host.{host_text}
use Rattle.url.specs.Parts.{Parts, nonempty_host}
use Rattle.url.specs.Parser.{Parsed, parse_url}
use Rattle.edr_fetch.specs.declared.requests.Request.{Request}

-- the bytes that a URL has at most
abbrev pub url_limit : ℕ
url_limit = 65_536

-- the port of the scheme http
abbrev pub http_port : ℕ
http_port = 80

abbrev pub query_behind : Option (List ℕ) → List ℕ
query_behind None = []
query_behind (Some query) = codes "?" ++ query

-- the target: the path of the URL and, where there is one, `?` and its query
abbrev pub target_of : Parts → List ℕ
target_of url = url.path ++ query_behind url.query

abbrev pub request_to : Parts → Host (List ℕ) → Request
request_to url host = record { host = host_text host; port = unwrap_or url.port http_port; target = target_of url }

-- only a URL of the scheme http with a host asks for something
abbrev pub request_by : Parts → Option Request
request_by url = if bytes_eq url.scheme (codes "http") then option_map (request_to url) (nonempty_host url) else None

abbrev pub request_read : Parsed Parts → Option Request
request_read (Ok url) = request_by url
request_read (Err error) = None

-- what a text asks for, and None where it is no such URL, is no UTF-8, or is too long
abbrev pub request_of : List ℕ → Option Request
request_of text = if nat_le (length text) url_limit && is_utf8 text then request_read (parse_url None text) else None

-- ---- its bytes

-- the port stands in the field `Host` where it isn't that of the scheme
abbrev pub port_text : ℕ → List ℕ
port_text port = if nat_eq port http_port then [] else codes ":" ++ decimal port

abbrev pub request_text : Request → List ℕ
request_text request =
    codes "GET " ++ (request.target ++ (codes " HTTP/1.1\r\nHost: " ++ (request.host ++ (port_text request.port ++ codes "\r\nConnection: close\r\n\r\n"))))
