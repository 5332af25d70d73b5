-- Texts in pieces: how they are grouped is of no account.
use mathlib.Core.List.{append_assoc}

pub ruleset pieces = (append_assoc)
