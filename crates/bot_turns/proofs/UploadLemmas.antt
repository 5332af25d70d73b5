-- Outputs that are uploaded one after the other.
use Rattle.std.proofs.Common.{◌≡◌, ℕ, suc, ◌+◌, ◌<◌, length, take, drop, get_or, List, [], ◌∷◌, ◌++◌, refl, ap, ◌∙◌, subst}
use Rattle.std.specs.Prelude.{Ok, Err, Option, Some, None}
use Rattle.bot_turns.specs.Types.{File, BotEvent, Hands}
use Rattle.runners.specs.Calls.{RunnerState}
use Rattle.sw_base.specs.Dialers.{DialerState}
use Rattle.bot_turns.proofs.SplitLemmas.{take_next, parts_at}
use Rattle.bot_turns.specs.Outputs.{UploadsOutput, UploadsAll, UploadEnds, with_optional_file, then_file}

then_after : (f g : Option File) (files : List File) → then_file (with_optional_file f files) g ≡ with_optional_file f (then_file files g)
then_after None g files = refl
then_after (Some x) None files = refl
then_after (Some x) (Some y) files = refl

then_none : (g : Option File) → then_file [] g ≡ with_optional_file g []
then_none None = refl
then_none (Some y) = refl

uploaded_next : (h : Hands) (paths : List (List ℕ)) (path : List ℕ) (f : Option File) (files : List File) (a b c : DialerState) (x y z : RunnerState) →
    UploadsAll h paths files a b x y → UploadsOutput h path (Ok f) b c y z → UploadsAll h (paths ++ path ∷ []) (then_file files f) a c x z
uploaded_next h [] path f files a b c x y z p q =
    record {
      file = f;
      others = [];
      mid_dialer = c;
      mid_runner = z;
      uploads = subst (λ s. UploadsOutput h path (Ok f) s c x z) p.1 (subst (λ t. UploadsOutput h path (Ok f) b c t z) p.2 q);
      rest = (refl, refl, refl);
      is = ap (λ l. then_file l f) p.0 ∙ then_none f;
    }
uploaded_next h (first ∷ paths) path f files a b c x y z p q =
    record {
      file = p.file;
      others = then_file p.others f;
      mid_dialer = p.mid_dialer;
      mid_runner = p.mid_runner;
      uploads = p.uploads;
      rest = uploaded_next h paths path f p.others p.mid_dialer b c p.mid_runner y z p.rest q;
      is = ap (λ l. then_file l f) p.is ∙ then_after p.file f p.others;
    }

pub uploaded_at : (h : Hands) (paths : List (List ℕ)) (i : ℕ) (path : List ℕ) (f : Option File) (files : List File) (a b c : DialerState) (x y z : RunnerState) →
    i < length paths → path ≡ get_or paths i path → UploadsAll h (take i paths) files a b x y → UploadsOutput h path (Ok f) b c y z → UploadsAll h (take (i + 1) paths) (then_file files f) a c x z
uploaded_at h paths i path f files a b c x y z p q u v =
    subst (λ l. UploadsAll h l (then_file files f) a c x z) (take_next paths i path p q) (uploaded_next h (take i paths) path f files a b c x y z u v)

pub ended_at : (h : Hands) (paths : List (List ℕ)) (i : ℕ) (path : List ℕ) (e : BotEvent) (files : List File) (a b c : DialerState) (x y z : RunnerState) →
    i < length paths → path ≡ get_or paths i path → UploadsAll h (take i paths) files a b x y → UploadsOutput h path (Err e) b c y z → UploadEnds h paths e files a c x z
ended_at h paths i path e files a b c x y z p q u v =
    record { done = take i paths; path = path; left = drop (suc i) paths; mid_dialer = b; mid_runner = y; parts = parts_at paths i path p q; uploaded = u; fails = v }
