-- The parts of small URLs.
use Rattle.std.specs.Prelude.{ℕ, List, [], Option, Some, None, codes}
use Rattle.url.specs.declared.host.Host.{Host}
use Rattle.url.specs.Parts.{Parts}

-- a URL of this scheme and host, with port 81
abbrev pub url_of : List ℕ → Option (Host (List ℕ)) → Parts
url_of scheme host =
    record {
      scheme = scheme;
      username = [];
      password = [];
      host = host;
      port = Some 81;
      path = codes "/";
      query = None;
      fragment = None;
    }
