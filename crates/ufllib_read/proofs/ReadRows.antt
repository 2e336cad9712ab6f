-- The rows of a file that was read make an instance.
use Rattle.std.proofs.Common.{◌≡◌, ℕ, ◌≤◌, List, length, All, None, IsSome, Ok, replicate, get_or, refl, sym, ap, subst, arith}
use Rattle.std.proofs.lemmas.List.{length-replicate}
use Rattle.std.proofs.lemmas.List.Elements.{All-replicate}
use Rattle.location_terms.specs.declared.limits.TheConstants.{MAX_AMOUNT}
use Rattle.location_terms.specs.Instance.{AreSizes}
use Rattle.fixed_cost.specs.declared.fault.FileKind.TheVariants.{BadIndex}
use Rattle.fixed_cost.specs.Reading.{Rest, amount_at, size_at, many_at}
use Rattle.fixed_cost.proofs.ReadFacts.{bind-ok, done-same, amount_at-small, AlwaysGives, many_at-each}
use Rattle.instance_store.specs.declared.numbered.SiteLanes.{SiteLanes}
use Rattle.instance_store.specs.Small.{IsSmall}
use Rattle.instance_store.specs.Numbered.{IsRow, AreSiteRows}
use Rattle.table_words.specs.Tables.{lanes_at}
use Rattle.table_words.proofs.TableFacts.{lanes_give}
use Rattle.ufllib_read.specs.Ufl.{site_lanes_at}

-- what is known of a facility where there are n cities
record IsFacility (n : ℕ) (s : SiteLanes) : Type 0 where
  pub fixed : s.site.fixed ≤ MAX_AMOUNT
  pub cap : s.site.cap ≡ None
  pub row : IsRow n s.lanes
  pub there : All IsSome s.lanes

site_gives : (n : ℕ) → AlwaysGives (λ (_ : ℕ). IsFacility n) (site_lanes_at n)
unfolding site_lanes_at
site_gives n = record { gives = by }
  where
    by : (k : ℕ) (r : Rest) (s : SiteLanes) (after : Rest) → site_lanes_at n k r ≡ Ok (s, after) → IsFacility n s
    by k r s after e =
        let number = bind-ok (size_at BadIndex _ r) _ (s, after) e in
        let fixed = bind-ok (amount_at number.0.1) _ (s, after) number.2 in
        let lanes = bind-ok (lanes_at n fixed.0.1) _ (s, after) fixed.2 in
        let known = lanes_give n fixed.0.1 lanes.0.0 lanes.0.1 lanes.1 in
        let made : SiteLanes = record { site = record { fixed = fixed.0.0; cap = None }; lanes = lanes.0.0 } in
        let same : made ≡ s = ap (λ (p : SiteLanes × Rest). p.0) (done-same (made, lanes.0.1) (s, after) lanes.2) in
        subst (IsFacility n) same (record { fixed = amount_at-small number.0.1 fixed.0.0 fixed.0.1 fixed.1; cap = refl; row = known.0; there = known.1 })

-- the rows of m facilities where there are n cities
module _ (m n : ℕ) (r : Rest) (sites : List SiteLanes) (after : Rest) (body : many_at (site_lanes_at n) 1 m r ≡ Ok (sites, after)) where
  facilities : (length sites ≡ m) × All (IsFacility n) sites
  facilities = many_at-each (IsFacility n) (site_lanes_at n) (site_gives n) m 1 r sites after body

  pub are_rows : AreSizes m n → AreSiteRows sites (replicate n 0)
  are_rows sizes =
      let demands : List ℕ = replicate n 0 in
      let count : length demands ≡ n = length-replicate n 0 in
      record {
        sizes = subst (λ k. AreSizes k (length demands)) (sym facilities.0) (subst (AreSizes m) (sym count) sizes);
        listed = λ k d below. let is = facilities.1 k d below in record { fixed_small = is.fixed; cap_small = subst IsSmall (sym is.cap) tt };
        rows = λ k d below. subst (λ j. IsRow j (get_or sites k d).lanes) (sym count) (facilities.1 k d below).row;
        demands_small = All-replicate (λ d. d ≤ MAX_AMOUNT) n 0 (omega arith);
      }

  pub no_caps : All (λ s. s.site.cap ≡ None) sites
  no_caps k d below = (facilities.1 k d below).cap

  pub all_there : All (λ s. All IsSome s.lanes) sites
  all_there k d below = (facilities.1 k d below).there
