-- The heads of small replies.
use Rattle.std.specs.Prelude.{ℕ, List, [], Some, codes}
use Rattle.httparse.specs.Grammar.{ResponseHead, crlf}

-- the head of a reply with these digits and no fields
abbrev pub reply_of : List ℕ → ResponseHead
reply_of digits =
    record {
      blank = [];
      minor = 1;
      digits = digits;
      reason = Some (codes "Some reason");
      line_end = crlf;
      fields = [];
      last = crlf;
    }
