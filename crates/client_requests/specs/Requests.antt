-- The text of a request.
use Rattle.std.specs.Prelude.{ℕ, List, ◌++◌, length, codes, decimal}

-- the head of a request whose body has so many bytes
unfoldable pub head_text : List ℕ → List ℕ → List ℕ → List ℕ → ℕ → List ℕ
head_text method path host caller size =
    method ++ (codes " " ++ (path ++ (codes " HTTP/1.1\r\nHost: " ++ (host ++ (codes "\r\nX-Swarming-Caller: " ++ (caller
    ++ (codes "\r\nContent-Length: " ++ (decimal size ++ codes "\r\n\r\n"))))))))

-- the head, and then the body
abbrev pub request_text : List ℕ → List ℕ → List ℕ → List ℕ → List ℕ → List ℕ
request_text method path host caller body = head_text method path host caller (length body) ++ body
