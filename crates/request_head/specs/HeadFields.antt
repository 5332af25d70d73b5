-- What a head says.
use Rattle.std.specs.Prelude.{ℕ, Bool, not, ◌&&◌, ◌||◌, ◌==◌, nat_le, nat_eq, List, length, map, true, false, if◌then◌else◌, Option, Some, None, option_and_then, codes}
use Rattle.std.specs.List.{list_all, list_any, slice_split, starts_with}
use Rattle.std.specs.Str.{bytes_eq}
use Rattle.httparse.specs.Grammar.{RequestHead, trim_ows}
use Rattle.httparse.specs.Spans.{name_and_value}
use Rattle.head_fields.specs.Fields.{named, only, lacks, same_name}
use Rattle.head_fields.specs.Numbers.{only_number, is_broken, is_absent, value_or_zero}
use Rattle.head_fields.specs.declared.number.Number.{Number}
use Rattle.head_fields.specs.declared.number.Number.TheVariants as number
use Rattle.request_head.specs.declared.method.Method.{Method}
use Rattle.request_head.specs.declared.method.Method.TheVariants.{Get, Head, Post, Put, Other}
use Rattle.request_head.specs.declared.head_refusal.HeadRefusal.{HeadRefusal}
use Rattle.request_head.specs.declared.head_refusal.HeadRefusal.TheVariants.{Bad, LengthRequired, TooLarge}
use Rattle.request_head.specs.declared.after.After.{After}
use Rattle.request_head.specs.declared.after.After.TheVariants as after

-- the names and the values of the fields
abbrev pub fields_of : RequestHead → List (List ℕ × List ℕ)
fields_of h = map name_and_value h.fields

-- the method of this name
abbrev pub method_named : List ℕ → Method
method_named name =
    if bytes_eq name (codes "GET") then Get
    else (if bytes_eq name (codes "HEAD") then Head
    else (if bytes_eq name (codes "POST") then Post
    else (if bytes_eq name (codes "PUT") then Put else Other)))

-- what Content-Length tells
abbrev pub length_told : List (List ℕ × List ℕ) → Number
length_told fields = only_number 10 (named (codes "content-length") fields)

-- the most bytes that the body of a request for this target has
abbrev pub limit_at : List ℕ → ℕ
limit_at target = if starts_with nat_eq target (codes "/blobs/") then 16777216 else 65536

-- a request of this method has a body
abbrev pub has_body : Method → Bool
has_body Post = true
has_body Put = true
has_body Get = false
has_body Head = false
has_body Other = false

-- the token is `close`, in any case
abbrev pub is_close : List ℕ → Bool
is_close token = same_name (trim_ows token) (codes "close")

-- one of the tokens between commas is `close`
abbrev pub has_close : List ℕ → Bool
has_close value = list_any is_close (slice_split (λ b. b == 44) value)

-- it is a Connection field with the token `close`
abbrev pub is_closing : List ℕ × List ℕ → Bool
is_closing field = same_name field.0 (codes "connection") && has_close field.1

abbrev pub asks_to_close : List (List ℕ × List ℕ) → Bool
asks_to_close fields = list_any is_closing fields

-- the connection ends with the reply: version 1.0, or the head asks for it
abbrev pub closes : ℕ → List (List ℕ × List ℕ) → Bool
closes minor fields = minor == 0 || asks_to_close fields

-- from 0x21 to 0x7E
abbrev pub is_visible : ℕ → Bool
is_visible b = nat_le 33 b && nat_le b 126

-- 1 to 128 visible bytes
abbrev pub is_caller : List ℕ → Bool
is_caller v = nat_le 1 (length v) && nat_le (length v) 128 && list_all is_visible v

abbrev pub caller : List ℕ → Option (List ℕ)
caller v = if is_caller v then Some v else None

-- the value of the only X-Swarming-Caller field, where it is one of a caller
abbrev pub caller_told : List (List ℕ × List ℕ) → Option (List ℕ)
caller_told fields = option_and_then caller (only (named (codes "x-swarming-caller") fields))

abbrev pub after_number : Number → After
after_number number.Absent = after.Absent
after_number (number.Told n) = after.Front n
after_number number.Broken = after.Broken

-- what X-Swarming-After tells
abbrev pub after_told : List (List ℕ × List ℕ) → After
after_told fields = after_number (only_number 19 (named (codes "x-swarming-after") fields))

-- no length is told that a body could be read by
abbrev pub wants_length : Method → Number → Bool → Bool
wants_length method length encoded = encoded || (has_body method && is_absent length)

-- a Content-Length that is none; then a Transfer-Encoding, or a body of no length; then one that is too long
abbrev pub refusal : Method → Number → Bool → ℕ → Option HeadRefusal
refusal method length encoded limit =
    if is_broken length then Some Bad
    else (if wants_length method length encoded then Some LengthRequired
    else (if nat_le (value_or_zero length) limit then None else Some (TooLarge limit)))

unfoldable pub method_of : RequestHead → Method
method_of h = method_named h.method

-- the bytes of the body
unfoldable pub size_of : RequestHead → ℕ
size_of h = value_or_zero (length_told (fields_of h))

unfoldable pub closes_of : RequestHead → Bool
closes_of h = closes h.minor (fields_of h)

unfoldable pub caller_of : RequestHead → Option (List ℕ)
caller_of h = caller_told (fields_of h)

unfoldable pub after_of : RequestHead → After
after_of h = after_told (fields_of h)

unfoldable pub head_refusal : RequestHead → Option HeadRefusal
head_refusal h =
    refusal (method_named h.method) (length_told (fields_of h)) (not (lacks (codes "transfer-encoding") (fields_of h))) (limit_at h.target)
