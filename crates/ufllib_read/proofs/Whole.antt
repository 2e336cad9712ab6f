-- From the parts of a file to the whole.
use Rattle.std.proofs.Common.{◌≡◌, ℕ, List, Result, Ok, Err, IfOk, sym, ap, subst, ◌∙◌, refl}
use Rattle.std.specs.Prelude.{IfErr}
use Rattle.location_terms.specs.Instance.{Instance}
use Rattle.fixed_cost.specs.declared.fault.FileFault.{FileFault}
use Rattle.fixed_cost.specs.declared.fault.FormFault.{FormFault}
use Rattle.fixed_cost.specs.declared.fault.FormFault.TheVariants.{NoMemory}
use Rattle.fixed_cost.specs.Reading.{Rest, many_at, finished, FailsAs, Means}
use Rattle.fixed_cost.proofs.ReadFacts.{finished-err, finished-ok}
use Rattle.instance_store.specs.declared.numbered.SiteLanes.{SiteLanes}
use Rattle.ufllib_read.specs.Ufl.{head_at, site_lanes_at, ufl_instance, ufl_at}

module _ (r : Rest) (m n : ℕ) (behind_head : Rest) (sites : List SiteLanes) (behind_rows : Rest) (head : head_at r ≡ Ok ((m, n), behind_head)) (body : many_at (site_lanes_at n) 1 m behind_head ≡ Ok (sites, behind_rows)) where
  to_end : ufl_at r ≡ finished (ufl_instance n sites) behind_rows
  unfolding ufl_at
  to_end = rw (head, body) refl

  -- a word is left
  pub trails : (f : FileFault) → finished {A = Unit {0}} (tt {0}) behind_rows ≡ Err f → ufl_at r ≡ Err f
  trails f e = to_end ∙ finished-err (tt {0}) (ufl_instance n sites) behind_rows f e

  -- no word is left
  pub stored-means : (result : Result Instance FormFault) → finished {A = Unit {0}} (tt {0}) behind_rows ≡ Ok (tt {0}) → IfOk result (λ I. I ≡ ufl_instance n sites) → IfErr result (λ e. e ≡ NoMemory) → Means (λ I. I) result (ufl_at r)
  stored-means (Ok I) e is only = to_end ∙ finished-ok (tt {0}) (tt {0}) (ufl_instance n sites) behind_rows e ∙ ap Ok (sym is)
  stored-means (Err fault) e is only = subst (λ f. FailsAs f (ufl_at r)) (sym only) tt
