-- What a text means is a valid instance.
use Rattle.std.proofs.Common.{◌≡◌, ℕ, Bool, List, map, Ok, subst}
use Rattle.std.specs.Prelude.{codes}
use Rattle.location_terms.specs.declared.limits.TheConstants.{MAX_SITES}
use Rattle.location_terms.specs.Instance.{Instance, IsValid}
use Rattle.fixed_cost.specs.Reading.{Rest, is_within, many_from}
use Rattle.fixed_cost.proofs.ReadFacts.{bind-ok, finished-same}
use Rattle.instance_store.specs.Parts.{instance_of}
use Rattle.instance_store.proofs.StoredLemmas.{IsValid-instance_of}
use Rattle.table_words.specs.Tables.{is_customer_count}
use Rattle.instance_text.specs.Own.{fixed_at, version_at, size_line_at, count_line_at, customer_line_at, site_line_at, own_instance, body_at, own_at, own_meaning}
use Rattle.instance_text.specs.Head.{IsHead}
use Rattle.instance_text.proofs.ReadRows.{head_gives, are_parts}
use Rattle.instance_text.proofs.Settling.{settled_is_own, IsValid-settled}

valid-body : (statuses : Bool) (m n count : ℕ × ℕ) (r : Rest) (I : Instance) → IsHead m n count → body_at statuses m n count r ≡ Ok I → IsValid I
unfolding body_at
valid-body statuses m n count r I head e =
    let custs = bind-ok (many_from (λ _ c. c.id) (customer_line_at n.1) 0 n.0 r) _ I e in
    let sites = bind-ok (many_from (λ _ s. s.0.id) (site_line_at statuses n.0 m.1) 0 m.0 custs.0.1) _ I custs.2 in
    let ends = bind-ok (fixed_at (codes "end") sites.0.1) _ I sites.2 in
    let parts = are_parts statuses m n count r custs.0.0 custs.0.1 sites.0.0 sites.0.1 head custs.1 sites.1 in
    let rows = map (λ s. s.0) sites.0.0 in
    let stored = IsValid-settled (instance_of count.0 count.1 m.1 n.1 custs.0.0 rows) (map (λ s. s.1) sites.0.0) (IsValid-instance_of count.0 count.1 m.1 n.1 custs.0.0 rows parts) in
    subst IsValid (finished-same (own_instance count m.1 n.1 custs.0.0 sites.0.0) I ends.0 ends.2) (subst IsValid (settled_is_own count m.1 n.1 custs.0.0 sites.0.0) stored)

valid-at : (r : Rest) (I : Instance) → own_at r ≡ Ok I → IsValid I
unfolding own_at
valid-at r I e =
    let first = bind-ok (fixed_at (codes "dualoc-instance") r) _ I e in
    let version = bind-ok (version_at first.0) _ I first.2 in
    let m = bind-ok (size_line_at (codes "sites") (is_within 1 MAX_SITES) version.0.1) _ I version.2 in
    let n = bind-ok (size_line_at (codes "customers") (is_customer_count m.0.0.0) m.0.1) _ I m.2 in
    let count = bind-ok (count_line_at n.0.1) _ I n.2 in
    valid-body version.0.0 m.0.0 n.0.0 count.0.0 count.0.1 I (head_gives m.0.0 n.0.0 count.0.0 version.0.1 m.0.1 n.0.1 count.0.1 m.1 n.1 count.1) count.2

pub valid-meant : (bytes : List ℕ) (I : Instance) → own_meaning bytes ≡ Ok I → IsValid I
unfolding own_meaning
valid-meant bytes I e = valid-at _ I e
