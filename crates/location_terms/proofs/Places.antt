-- What an instance has at an id is what it has at the id's place.
use Rattle.std.proofs.Common.{◌≡◌, ℕ, ◌+◌, ◌<◌, List, [], ◌∷◌, ◌++◌, length, Option, option_map, unwrap_or, slice_index, sym, ap, ◌∙◌, arith}
use Rattle.std.specs.List.{range_with_len}
use Rattle.std.proofs.lemmas.List.{length-map, get_or-map, map-id}
use Rattle.std.proofs.lemmas.List.FromFn.{map-range_with_len_more}
use Rattle.std.specs.List.Sorted.{IsStrictlyIncreasing}
use Rattle.location_terms.proofs.Rising.{found_by_key}
use Rattle.location_terms.specs.Instance.{Instance, Site, Customer, site_ids, customer_ids, site_at, customer_at, fixed_of, demand_of}

pub length-site_ids : (I : Instance) → length (site_ids I) ≡ length I.sites
length-site_ids I = length-map I.sites (λ s. s.id)

pub length-customer_ids : (I : Instance) → length (customer_ids I) ≡ length I.customers
length-customer_ids I = length-map I.customers (λ c. c.id)

pub slice_index-site_ids : (I : Instance) (i : ℕ) → i < length I.sites → slice_index (site_ids I) i ≡ (site_at I i).id
slice_index-site_ids I i within = get_or-map (λ s. s.id) I.sites i _ 0 within

pub slice_index-customer_ids : (I : Instance) (j : ℕ) → j < length I.customers → slice_index (customer_ids I) j ≡ (customer_at I j).id
slice_index-customer_ids I j within = get_or-map (λ c. c.id) I.customers j _ 0 within

-- what it costs to open a site, by its id and by its place
pub fixed_of-site_at : (I : Instance) (i : ℕ) → IsStrictlyIncreasing (site_ids I) → i < length I.sites → fixed_of I (site_at I i).id ≡ (site_at I i).fixed
fixed_of-site_at I i rise within = ap (λ (o : Option Site). unwrap_or (option_map (λ x. x.fixed) o) 0) (found_by_key (λ s. s.id) I.sites _ rise i within)

-- what a customer demands, by its id and by its place
pub demand_of-customer_at : (I : Instance) (j : ℕ) → IsStrictlyIncreasing (customer_ids I) → j < length I.customers → demand_of I (customer_at I j).id ≡ (customer_at I j).demand
demand_of-customer_at I j rise within = ap (λ (o : Option Customer). unwrap_or (option_map (λ x. x.demand) o) 0) (found_by_key (λ c. c.id) I.customers _ rise j within)

-- one place more
pub places_more : (n : ℕ) → range_with_len 0 (n + 1) ≡ range_with_len 0 n ++ n ∷ []
places_more n =
    sym (map-id (range_with_len 0 (n + 1)))
    ∙ map-range_with_len_more (λ i. i) 0 n n (omega arith)
    ∙ ap (λ (places : List ℕ). places ++ n ∷ []) (map-id (range_with_len 0 n))
