-- What a file means is a valid instance.
use Rattle.std.proofs.Common.{◌≡◌, ℕ, ◌==◌, List, Ok, replicate, ap, subst}
use Rattle.location_terms.specs.Instance.{Instance, AreSizes, IsValid}
use Rattle.fixed_cost.specs.declared.fault.FileKind.TheVariants.{NotZero}
use Rattle.fixed_cost.specs.Reading.{Rest, size_at, many_at}
use Rattle.fixed_cost.proofs.ReadFacts.{bind-ok, done-same, finished-same}
use Rattle.instance_store.proofs.NumberedLists.{valid-by_site}
use Rattle.table_words.specs.Tables.{sizes_at}
use Rattle.table_words.proofs.TableFacts.{sizes_give}
use Rattle.ufllib_read.specs.Ufl.{head_at, site_lanes_at, ufl_instance, ufl_at, ufl_meaning}
use Rattle.ufllib_read.proofs.ReadRows.{are_rows}

-- the numbers in a head are within the limits
head_gives : (r : Rest) (m n : ℕ) (after : Rest) → head_at r ≡ Ok ((m, n), after) → AreSizes m n
unfolding head_at
head_gives r m n after e =
    let sizes = bind-ok (sizes_at r) _ ((m, n), after) e in
    let zero = bind-ok (size_at NotZero (λ z. z == 0) sizes.0.1) _ ((m, n), after) sizes.2 in
    let same : sizes.0.0 ≡ (m, n) = ap (λ (p : (ℕ × ℕ) × Rest). p.0) (done-same (sizes.0.0, zero.0.1) ((m, n), after) zero.2) in
    subst (λ (p : ℕ × ℕ). AreSizes p.0 p.1) same (sizes_give r sizes.0.0.0 sizes.0.0.1 sizes.0.1 sizes.1)

valid-at : (r : Rest) (I : Instance) → ufl_at r ≡ Ok I → IsValid I
unfolding ufl_at
valid-at r I e =
    let head = bind-ok (head_at r) _ I e in
    let m = head.0.0.0 in
    let n = head.0.0.1 in
    let rows = bind-ok (many_at (site_lanes_at n) 1 m head.0.1) _ I head.2 in
    let are = are_rows m n head.0.1 rows.0.0 rows.0.1 rows.1 (head_gives r m n head.0.1 head.1) in
    subst IsValid (finished-same (ufl_instance n rows.0.0) I rows.0.1 rows.2) (valid-by_site rows.0.0 (replicate n 0) are)

pub valid-meant : (bytes : List ℕ) (I : Instance) → ufl_meaning bytes ≡ Ok I → IsValid I
unfolding ufl_meaning
valid-meant bytes I e = valid-at _ I e
