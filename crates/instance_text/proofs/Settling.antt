-- Statuses that are given to the sites of an instance, one behind the other.
use Rattle.std.proofs.Common.{◌≡◌, ℕ, ◌+◌, ◌<◌, ◌≤◌, List, [], ◌∷◌, ◌++◌, map, length, take, get_or, set, refl, sym, ap, subst, ◌∙◌, arith}
use Rattle.std.specs.Prelude.{All, IfSome, Contains}
use Rattle.std.proofs.lemmas.Simd.{map-map}
use Rattle.std.proofs.lemmas.List.{length-take-le, take_more}
use Rattle.std.proofs.lemmas.List.Elements.{All-cons, All-head, All-tail}
use Rattle.location_terms.specs.declared.limits.TheConstants.{MAX_AMOUNT}
use Rattle.location_terms.specs.declared.status.SiteStatus.{SiteStatus}
use Rattle.location_terms.specs.declared.status.SiteStatus.TheVariants.{Free}
use Rattle.location_terms.specs.Instance.{Instance, Site, AreIds, AreSizes, IsValid, site_ids, site_at, lanes_of}
use Rattle.instance_store.specs.declared.rows.SiteRow.{SiteRow}
use Rattle.instance_store.specs.declared.rows.CustRow.{CustRow}
use Rattle.instance_store.specs.Parts.{site_of, customer_of, cust_row_ids, instance_of}
use Rattle.instance_store.specs.Changes.{with_status}
use Rattle.instance_store.proofs.SiteLemmas.{map-at_key}
use Rattle.instance_text.specs.Own.{own_instance}
use Rattle.instance_text.specs.Settled.{with_statuses, with_own_statuses}

none : (xs : List Site) → with_statuses xs [] ≡ xs
none [] = refl
none (x ∷ xs) = refl

pub settled_none : (I : Instance) → with_own_statuses I [] ≡ I
settled_none I = ap (λ (xs : List Site). record I { sites = xs }) (none I.sites)

pub length-with_statuses : (xs : List Site) (statuses : List SiteStatus) → length (with_statuses xs statuses) ≡ length xs
length-with_statuses [] statuses = refl
length-with_statuses (x ∷ xs) [] = refl
length-with_statuses (x ∷ xs) (s ∷ ss) = omega (arith, length-with_statuses xs ss)

one_more : (xs : List Site) (before : List SiteStatus) (status : SiteStatus) (d : Site) → length before < length xs → set (with_statuses xs before) (length before) (record (get_or (with_statuses xs before) (length before) d) { status = status }) ≡ with_statuses xs (before ++ status ∷ [])
one_more [] before status d b = absurd (omega (arith, b))
one_more (x ∷ xs) [] status d b = ap (λ (ys : List Site). record x { status = status } ∷ ys) (sym (none xs))
one_more (x ∷ xs) (s ∷ ss) status d b = ap (λ (ys : List Site). record x { status = s } ∷ ys) (one_more xs ss status d (omega (arith, b)))

-- validity speaks of no status
ids_stay : (xs : List Site) (statuses : List SiteStatus) → map (λ (x : Site). x.id) (with_statuses xs statuses) ≡ map (λ x. x.id) xs
ids_stay [] statuses = refl
ids_stay (x ∷ xs) [] = refl
ids_stay (x ∷ xs) (s ∷ ss) = ap (λ (ids : List ℕ). x.id ∷ ids) (ids_stay xs ss)

all_stay : (Q : Site → Type 0) → ((x : Site) (status : SiteStatus) → Q x → Q (record x { status = status })) → (xs : List Site) (statuses : List SiteStatus) → All Q xs → All Q (with_statuses xs statuses)
all_stay Q keeps [] statuses all = all
all_stay Q keeps (x ∷ xs) [] all = all
all_stay Q keeps (x ∷ xs) (s ∷ ss) all = All-cons Q _ _ (keeps x s (All-head Q x xs all)) (all_stay Q keeps xs ss (All-tail Q x xs all))

pub IsValid-settled : (I : Instance) (statuses : List SiteStatus) → IsValid I → IsValid (with_own_statuses I statuses)
IsValid-settled I statuses valid =
    let ids : site_ids (with_own_statuses I statuses) ≡ site_ids I = ids_stay I.sites statuses in
    record {
      sites_named = subst (λ ids. AreIds ids I.next_site) (sym ids) valid.sites_named;
      customers_named = valid.customers_named;
      lanes_known = λ s c there. let known = valid.lanes_known s c there in (subst (λ ids. Contains ids s) (sym ids) known.0, known.1);
      lanes_small = valid.lanes_small;
      fixed_small = all_stay (λ (s : Site). s.fixed ≤ MAX_AMOUNT) (λ x status q. q) I.sites statuses valid.fixed_small;
      caps_small = all_stay (λ (s : Site). IfSome s.cap (λ cap. cap ≤ MAX_AMOUNT)) (λ x status q. q) I.sites statuses valid.caps_small;
      demands_small = valid.demands_small;
      sizes = subst (λ m. AreSizes m (length I.customers)) (sym (length-with_statuses I.sites statuses)) valid.sizes;
      count_order = valid.count_order;
      count_small = valid.count_small;
    }

-- a site's status by its id is that by its place
with_status_is : (J : Instance) (i : ℕ) (status : SiteStatus) → IsValid J → i < length J.sites → with_status J (site_at J i).id status ≡ record J { sites = set J.sites i (record (site_at J i) { status = status }) }
with_status_is J i status valid within =
    ap (λ (xs : List Site). record J { sites = xs }) (map-at_key (λ (x : Site). x.id) (λ (x : Site). record x { status = status }) J.sites i _ valid.sites_named.rising within)

-- the next site gets its status
pub settled_more : (I : Instance) (statuses : List SiteStatus) (i : ℕ) (e : SiteStatus) → IsValid I → i < length statuses → length statuses ≡ length I.sites → with_status (with_own_statuses I (take i statuses)) (site_at (with_own_statuses I (take i statuses)) i).id (get_or statuses i e) ≡ with_own_statuses I (take (i + 1) statuses)
settled_more I statuses i e valid b long =
    let before : List SiteStatus = take i statuses in
    let J : Instance = with_own_statuses I before in
    let status : SiteStatus = get_or statuses i e in
    let here : length before ≡ i = length-take-le i statuses (omega (arith, b)) in
    with_status_is J i status (IsValid-settled I before valid) (omega (arith, b, long, length-with_statuses I.sites before))
    ∙ ap (λ (n : ℕ). record J { sites = set J.sites n (record (site_at J n) { status = status }) }) (sym here)
    ∙ ap (λ (xs : List Site). record I { sites = xs }) (one_more I.sites before status _ (omega (arith, b, here, long)))
    ∙ ap (with_own_statuses I) (sym (take_more statuses i e b))

-- all have theirs
rows_settled : (sites : List (SiteRow × SiteStatus)) → with_statuses (map (site_of Free) (map (λ s. s.0) sites)) (map (λ s. s.1) sites) ≡ map (λ s. site_of s.1 s.0) sites
rows_settled [] = refl
rows_settled (s ∷ ss) = ap (λ (xs : List Site). site_of s.1 s.0 ∷ xs) (rows_settled ss)

pub settled_is_own : (count : ℕ × ℕ) (next_site next_cust : ℕ) (custs : List CustRow) (sites : List (SiteRow × SiteStatus)) → with_own_statuses (instance_of count.0 count.1 next_site next_cust custs (map (λ s. s.0) sites)) (map (λ s. s.1) sites) ≡ own_instance count next_site next_cust custs sites
settled_is_own count next_site next_cust custs sites =
    let the_ids : map (λ (r : SiteRow). r.id) (map (λ (s : SiteRow × SiteStatus). s.0) sites) ≡ map (λ s. s.0.id) sites = map-map (λ (r : SiteRow). r.id) (λ (s : SiteRow × SiteStatus). s.0) sites in
    let the_rows : map (λ (r : SiteRow). r.lanes) (map (λ (s : SiteRow × SiteStatus). s.0) sites) ≡ map (λ s. s.0.lanes) sites = map-map (λ (r : SiteRow). r.lanes) (λ (s : SiteRow × SiteStatus). s.0) sites in
    let the_sites = rows_settled sites in
    λ k. record {
      sites = the_sites k;
      customers = map customer_of custs;
      lanes = lanes_of (the_ids k) (cust_row_ids custs) (the_rows k);
      lo = count.0;
      hi = count.1;
      next_site = next_site;
      next_customer = next_cust;
    }
