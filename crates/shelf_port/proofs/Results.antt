-- Clauses on a result.
use Rattle.std.specs.Prelude.{Result, Ok, Err, OnOk, OnErr}

pub OnErr-holds : {T E P : Type 0} (r : Result T E) → P → OnErr r P
OnErr-holds (Ok x) p = tt
OnErr-holds (Err e) p = p

pub OnOk-then : {T E P Q : Type 0} (r : Result T E) → (P → Q) → OnOk r P → OnOk r Q
OnOk-then (Ok x) f p = f p
OnOk-then (Err e) f p = tt

pub OnErr-then : {T E P Q : Type 0} (r : Result T E) → (P → Q) → OnErr r P → OnErr r Q
OnErr-then (Ok x) f p = tt
OnErr-then (Err e) f p = f p
