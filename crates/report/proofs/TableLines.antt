-- The figures of a site, and its line in the table.
use Rattle.std.proofs.Common.{◌≡◌, ℕ, ◌+◌, ◌<◌, List, [], ◌∷◌, ◌++◌, length, map, take, get_or, codes, append_assoc, Option, ap, sym, refl, ◌∙◌, arith}
use Rattle.std.specs.Prelude.{sum_by, filter, ◌==◌, unwrap_or, option_and_then}
use Rattle.std.proofs.lemmas.List.Sums.{sum_by-cons, sum_by_push}
use Rattle.std.proofs.lemmas.List.{take_more}
use Rattle.location_terms.specs.Instance.{Instance, Site, IsValid, site_at, fixed_of, demand_of, lane}
use Rattle.location_terms.specs.Plan.{Plan, load_of, cost_of}
use Rattle.location_terms.proofs.Places.{fixed_of-site_at}
use Rattle.location_terms.proofs.Rising.{found_by_key}
use Rattle.number_words.specs.Cost.{micro_text}
use Rattle.number_words.specs.Number.{digits_text}
use Rattle.report.specs.SiteTable.{customers_of, site_cost, cap_of, spare_text, permille, table_line}
use Rattle.report.specs.Figures.{figures_of, served_part, cost_part, figures_line}

-- the sum of what a part gives is the sum over the parts
pub sum_of_parts : {X : Type 0} (f : ℕ → ℕ) (part : X → ℕ) (xs : List X) → sum_by f (map part xs) ≡ sum_by (λ x. f (part x)) xs
sum_of_parts f part [] = refl
sum_of_parts f part (x ∷ xs) = omega (arith, sum_by-cons f (part x) (map part xs), sum_by-cons (λ x. f (part x)) x xs, sum_of_parts f part xs)

-- one more of some numbers that are added
pub sum_more : (f : ℕ → ℕ) (xs : List ℕ) (k x : ℕ) → k < length xs → x ≡ get_or xs k x → sum_by f (take (k + 1) xs) ≡ sum_by f (take k xs) + f x
sum_more f xs k x within is =
    ap (sum_by f) (take_more xs k x within) ∙ sum_by_push f (take k xs) (get_or xs k x) ∙ ap (λ y. sum_by f (take k xs) + f y) (sym is)

joined : (h c m s d n : List ℕ) → h ++ (c ++ m ++ s ++ d ++ n) ≡ h ++ c ++ m ++ s ++ d ++ n
joined h c m s d n = simp append_assoc

told : (id count load : ℕ) (cap : Option ℕ) (cost whole : ℕ) → List ℕ
told id count load cap cost whole = figures_line (record { id = id; custs = count; load = load; cap = cap; cost = cost }) whole

-- the line of an open site's figures is its line in the table
module _ (I : Instance) (valid : IsValid I) (P : Plan) (i : ℕ) (within : i < length I.sites) where
  abbrev s : ℕ
  s = (site_at I i).id

  abbrev n : ℕ
  n = length (customers_of P s)

  abbrev lanes : ℕ
  lanes = sum_by (λ c. unwrap_or (lane I s c) 0) (customers_of P s)

  load_is : sum_by (demand_of I) (customers_of P s) ≡ load_of I P s
  load_is = sum_of_parts (demand_of I) (λ v. v.0) (filter (λ v. v.1 == s) P.serves)

  cap_is : (site_at I i).cap ≡ cap_of I s
  cap_is = sym (ap (λ (o : Option Site). option_and_then (λ x. x.cap) o) (found_by_key (λ x. x.id) I.sites _ valid.sites_named.rising i within))

  cost_is : (site_at I i).fixed + lanes ≡ site_cost I P s
  cost_is = ap (λ fixed. fixed + lanes) (sym (fixed_of-site_at I i valid.sites_named.rising within))

  pub line_is : figures_line (figures_of I i (customers_of P s)) (cost_of I P) ≡ table_line I P s
  unfolding told served_part cost_part
  line_is =
      ap (λ load. told s n load (site_at I i).cap ((site_at I i).fixed + lanes) (cost_of I P)) load_is
      ∙ ap (λ cap. told s n (load_of I P s) cap ((site_at I i).fixed + lanes) (cost_of I P)) cap_is
      ∙ ap (λ cost. told s n (load_of I P s) (cap_of I s) cost (cost_of I P)) cost_is
      ∙ joined
      (codes "site " ++ digits_text s ++ codes " customers " ++ digits_text n ++ codes " load " ++ micro_text (load_of I P s) ++ codes " spare " ++ spare_text (cap_of I s) (load_of I P s))
      (codes " cost ") (micro_text (site_cost I P s)) (codes " share ") (digits_text (permille (site_cost I P s) (cost_of I P))) (codes "\n")
