-- Where a server is, by the URL standard.
use Rattle.std.specs.Prelude.{ℕ, List, ◌++◌, codes, decimal, Option, Some, None, Ok, Err, Result, if◌then◌else◌, option_map, unwrap_or}
use Rattle.std.specs.Str.{bytes_eq}
use Rattle.url.specs.Host.{host_text}
use Rattle.url.specs.Parser.{parse_url}
use Rattle.url.specs.Parts.{Parts, nonempty_host}

-- a host with a port behind it
abbrev pub with_port : List ℕ → ℕ → List ℕ
with_port host port = host ++ (codes ":" ++ decimal port)

-- the text that is dialed: the host and the port, which is 80 where the URL has none
abbrev pub dial_text : List ℕ → Option ℕ → List ℕ
dial_text host port = with_port host (unwrap_or port 80)

-- the value of the field `Host`: the host, with the port where the URL has one
abbrev pub host_field : List ℕ → Option ℕ → List ℕ
host_field host None = host
host_field host (Some port) = with_port host port

-- both texts, the dialed one first
abbrev pub texts_of : List ℕ → Option ℕ → List ℕ × List ℕ
texts_of host port = (dial_text host port, host_field host port)

-- both texts of a URL, where its scheme is `http` and it has a host
abbrev pub url_texts : Parts → Option (List ℕ × List ℕ)
url_texts url = if bytes_eq url.scheme (codes "http") then option_map (λ host. texts_of (host_text host) url.port) (nonempty_host url) else None

abbrev pub result_texts : {E : Type 0} → Result Parts E → Option (List ℕ × List ℕ)
result_texts (Ok url) = url_texts url
result_texts (Err e) = None

-- both texts of a server's address, where it is an `http` URL with a host
abbrev pub address_of : List ℕ → Option (List ℕ × List ℕ)
address_of text = result_texts (parse_url None text)
