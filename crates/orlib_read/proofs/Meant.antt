-- What a file means is a valid instance.
use Rattle.std.proofs.Common.{◌≡◌, ℕ, List, Ok, subst}
use Rattle.location_terms.specs.Instance.{Instance, IsValid}
use Rattle.fixed_cost.specs.Reading.{Rest, many_at}
use Rattle.fixed_cost.proofs.ReadFacts.{bind-ok, finished-same}
use Rattle.instance_store.specs.Numbered.{numbered_by_customer}
use Rattle.instance_store.proofs.NumberedLists.{valid-by_customer}
use Rattle.table_words.specs.Tables.{sizes_at}
use Rattle.table_words.proofs.TableFacts.{sizes_give}
use Rattle.orlib_read.specs.Warehouses.{GivesSmall, warehouse_at, customer_at, warehouses_at, warehouse_meaning}
use Rattle.orlib_read.specs.declared.capacities.Capacities.{Capacities}
use Rattle.orlib_read.proofs.ReadRows.{are_rows}

valid-at : (capacities : Capacities) (r : Rest) (I : Instance) → GivesSmall capacities → warehouses_at capacities r ≡ Ok I → IsValid I
unfolding warehouses_at
valid-at capacities r I small e =
    let sizes = bind-ok (sizes_at r) _ I e in
    let m = sizes.0.0.0 in
    let n = sizes.0.0.1 in
    let sites = bind-ok (many_at (λ _. warehouse_at capacities) 0 m sizes.0.1) _ I sizes.2 in
    let custs = bind-ok (many_at (λ _. customer_at m) 0 n sites.0.1) _ I sites.2 in
    let are = are_rows capacities m n sizes.0.1 sites.0.0 sites.0.1 custs.0.0 custs.0.1 small sites.1 custs.1 (sizes_give r m n sizes.0.1 sizes.1) in
    subst IsValid (finished-same (numbered_by_customer sites.0.0 custs.0.0) I custs.0.1 custs.2) (valid-by_customer sites.0.0 custs.0.0 are)

pub valid-meant : (capacities : Capacities) (bytes : List ℕ) (I : Instance) → GivesSmall capacities → warehouse_meaning capacities bytes ≡ Ok I → IsValid I
unfolding warehouse_meaning
valid-meant capacities bytes I small e = valid-at capacities _ I small e
