-- From the parts of a file to the whole.
use Rattle.std.proofs.Common.{◌≡◌, ℕ, List, Result, Ok, Err, IfOk, refl, sym, ap, subst, ◌∙◌}
use Rattle.std.specs.Prelude.{IfErr}
use Rattle.location_terms.specs.Instance.{Instance}
use Rattle.fixed_cost.specs.declared.fault.FileFault.{FileFault}
use Rattle.fixed_cost.specs.declared.fault.FormFault.{FormFault}
use Rattle.fixed_cost.specs.declared.fault.FormFault.TheVariants.{NoMemory}
use Rattle.fixed_cost.specs.Reading.{Rest, many_at, finished, FailsAs, Means}
use Rattle.fixed_cost.proofs.ReadFacts.{finished-err, finished-ok}
use Rattle.instance_store.specs.Numbered.{numbered_by_customer}
use Rattle.instance_store.specs.declared.numbered.ListedSite.{ListedSite}
use Rattle.instance_store.specs.declared.numbered.CustLanes.{CustLanes}
use Rattle.table_words.specs.Tables.{sizes_at}
use Rattle.orlib_read.specs.Warehouses.{warehouse_at, customer_at, warehouses_at}
use Rattle.orlib_read.specs.declared.capacities.Capacities.{Capacities}

module _ (capacities : Capacities) (r : Rest) (m n : ℕ) (behind_head : Rest) (sites : List ListedSite) (behind_sites : Rest) (custs : List CustLanes) (behind_custs : Rest)
    (head : sizes_at r ≡ Ok ((m, n), behind_head)) (sites_read : many_at (λ _. warehouse_at capacities) 0 m behind_head ≡ Ok (sites, behind_sites)) (custs_read : many_at (λ _. customer_at m) 0 n behind_sites ≡ Ok (custs, behind_custs)) where
  to_end : warehouses_at capacities r ≡ finished (numbered_by_customer sites custs) behind_custs
  unfolding warehouses_at
  to_end = rw (head, sites_read, custs_read) refl

  -- a word is left
  pub trails : (f : FileFault) → finished {A = Unit {0}} (tt {0}) behind_custs ≡ Err f → warehouses_at capacities r ≡ Err f
  trails f e = to_end ∙ finished-err (tt {0}) (numbered_by_customer sites custs) behind_custs f e

  -- no word is left
  pub stored-means : (result : Result Instance FormFault) → finished {A = Unit {0}} (tt {0}) behind_custs ≡ Ok (tt {0}) → IfOk result (λ I. I ≡ numbered_by_customer sites custs) → IfErr result (λ e. e ≡ NoMemory) → Means (λ I. I) result (warehouses_at capacities r)
  stored-means (Ok I) e is only = to_end ∙ finished-ok (tt {0}) (tt {0}) (numbered_by_customer sites custs) behind_custs e ∙ ap Ok (sym is)
  stored-means (Err fault) e is only = subst (λ f. FailsAs f (warehouses_at capacities r)) (sym only) tt
