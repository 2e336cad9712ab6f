use Rattle.std.proofs.Common.{◌≡◌, ◌++◌, map, take}
use Rattle.std.specs.Prelude.{codes}
use Rattle.certificate_text.specs.Written.{counted}
use Rattle.certificate_text.proofs.print.push_serve.Given as goal

abbrev pub invariant-loop-k : goal.invariant-loop-k
invariant-loop-k l = l.text.items ≡ l.fn.text.items ++ codes "serve" ++ counted (map (λ v. v.1) (take l.k l.plan.serves))
