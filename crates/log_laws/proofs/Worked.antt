-- The replies, deadlines and rows compute to what is said of them.
use Rattle.std.proofs.Common.{refl}
use Rattle.log_laws.specs.Worked.{ReportedAgain, LostTooLong}

pub reported_again : ReportedAgain
reported_again = record { asked = refl; reported = refl; state = refl; length = refl; chunks = refl }

pub lost_too_long : LostTooLong
lost_too_long = record { first_due = refl; second_due = refl; none_due = refl; claim = refl; poll = refl; state = refl; length = refl }
