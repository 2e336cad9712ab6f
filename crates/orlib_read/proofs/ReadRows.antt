-- The warehouses and customers of a file that was read make an instance.
use Rattle.std.proofs.Common.{◌≡◌, ℕ, ◌≤◌, Bool, true, false, List, length, All, Option, None, Some, IsSome, Result, Ok, Err, get_or, refl, sym, ap, subst}
use Rattle.std.specs.Prelude.{bytes_eq, codes, if◌then◌else◌}
use Rattle.location_terms.specs.Instance.{AreSizes}
use Rattle.fixed_cost.specs.Amount.{amount_of}
use Rattle.number_words.specs.Words.{PlacedWord}
use Rattle.fixed_cost.specs.declared.amount.AmountFault.{AmountFault}
use Rattle.fixed_cost.specs.Reading.{Rest, word_at, in_word, amount_at, many_at}
use Rattle.fixed_cost.proofs.ReadFacts.{bind-ok, done-same, amount_of-small, amount_at-small, AlwaysGives, many_at-each}
use Rattle.instance_store.specs.Small.{IsSmall}
use Rattle.instance_store.specs.Numbered.{IsListed, IsRow, AreCustRows}
use Rattle.instance_store.specs.declared.numbered.ListedSite.{ListedSite}
use Rattle.instance_store.specs.declared.numbered.CustLanes.{CustLanes}
use Rattle.table_words.specs.Tables.{lanes_at}
use Rattle.table_words.proofs.TableFacts.{lanes_give}
use Rattle.orlib_read.specs.Warehouses.{GivesSmall, given_for, capacity_at, limit_at, warehouse_at, customer_at}
use Rattle.orlib_read.specs.declared.capacities.Capacities.{Capacities}
use Rattle.orlib_read.specs.declared.capacities.Capacities.TheVariants.{Kept, Ignored}

-- a capacity is what is given, or what the word spells
chosen-small : (named : Bool) (w : PlacedWord) (given : Option ℕ) (read : Result ℕ AmountFault) (n : ℕ) → IsSmall given → ((k : ℕ) → read ≡ Ok k → k ≤ 999999999999999) → (if named then given_for w given else in_word w read) ≡ Ok n → n ≤ 999999999999999
chosen-small true w None read n small spelled e = absurd cc
chosen-small true w (Some cap) read n small spelled e = subst (λ k. k ≤ 999999999999999) (done-same cap n e) small
chosen-small false w given (Err f) n small spelled e = absurd cc
chosen-small false w given (Ok k) n small spelled e = subst (λ k. k ≤ 999999999999999) (done-same k n e) (spelled k refl)

capacity_at-small : (given : Option ℕ) (r : Rest) (n : ℕ) (after : Rest) → IsSmall given → capacity_at given r ≡ Ok (n, after) → n ≤ 999999999999999
unfolding capacity_at
capacity_at-small given r n after small e =
    let w = bind-ok (word_at r) _ (n, after) e in
    let cap = bind-ok (if bytes_eq w.0.0.text (codes "capacity") then given_for w.0.0 given else in_word w.0.0 (amount_of w.0.0.text)) _ (n, after) w.2 in
    let same : cap.0 ≡ n = ap (λ (p : ℕ × Rest). p.0) (done-same (cap.0, w.0.1) (n, after) cap.2) in
    subst (λ k. k ≤ 999999999999999) same (chosen-small (bytes_eq w.0.0.text (codes "capacity")) w.0.0 given (amount_of w.0.0.text) cap.0 small (amount_of-small w.0.0.text) cap.1)

-- a capacity that was read is within the limit, and is none where capacities are ignored
record IsLimit (capacities : Capacities) (limit : Option ℕ) : Type 0 where
  pub small : IsSmall limit
  pub none : capacities ≡ Ignored → limit ≡ None

limit_gives : (capacities : Capacities) (r : Rest) (limit : Option ℕ) (after : Rest) → GivesSmall capacities → limit_at capacities r ≡ Ok (limit, after) → IsLimit capacities limit
unfolding limit_at
limit_gives (Kept given) r limit after small e =
    let cap = bind-ok (capacity_at given r) _ (limit, after) e in
    let same : Some cap.0.0 ≡ limit = ap (λ (p : Option ℕ × Rest). p.0) (done-same (Some cap.0.0, cap.0.1) (limit, after) cap.2) in
    subst (IsLimit (Kept given)) same (record { small = capacity_at-small given r cap.0.0 cap.0.1 small cap.1; none = λ other. absurd cc })
limit_gives Ignored r limit after small e =
    let cap = bind-ok (capacity_at (Some 0) r) _ (limit, after) e in
    let same : None ≡ limit = ap (λ (p : Option ℕ × Rest). p.0) (done-same (None, cap.0.1) (limit, after) cap.2) in
    subst (IsLimit Ignored) same (record { small = tt; none = λ _. refl })

-- what is known of a warehouse that was read
pub record IsWarehouse (capacities : Capacities) (site : ListedSite) : Type 0 where
  pub listed : IsListed site
  pub limit : capacities ≡ Ignored → site.cap ≡ None

warehouse_gives : (capacities : Capacities) → GivesSmall capacities → AlwaysGives (λ (_ : ℕ). IsWarehouse capacities) (λ _. warehouse_at capacities)
unfolding warehouse_at
warehouse_gives capacities small = record { gives = λ k r site after e. by r site after e }
  where
    by : (r : Rest) (site : ListedSite) (after : Rest) → warehouse_at capacities r ≡ Ok (site, after) → IsWarehouse capacities site
    by r site after e =
        let cap = bind-ok (limit_at capacities r) _ (site, after) e in
        let fixed = bind-ok (amount_at cap.0.1) _ (site, after) cap.2 in
        let made : ListedSite = record { fixed = fixed.0.0; cap = cap.0.0 } in
        let same : made ≡ site = ap (λ (p : ListedSite × Rest). p.0) (done-same (made, fixed.0.1) (site, after) fixed.2) in
        let is : IsLimit capacities cap.0.0 = limit_gives capacities r cap.0.0 cap.0.1 small cap.1 in
        let listed : IsListed made = record { fixed_small = amount_at-small cap.0.1 fixed.0.0 fixed.0.1 fixed.1; cap_small = is.small } in
        subst (IsWarehouse capacities) same (record { listed = listed; limit = is.none })

-- what is known of a customer that was read
pub record IsCustomer (m : ℕ) (cust : CustLanes) : Type 0 where
  pub demand : cust.demand ≤ 999999999999999
  pub row : IsRow m cust.lanes
  pub there : All IsSome cust.lanes

customer_gives : (m : ℕ) → AlwaysGives (λ (_ : ℕ). IsCustomer m) (λ _. customer_at m)
unfolding customer_at
customer_gives m = record { gives = λ k r cust after e. by r cust after e }
  where
    by : (r : Rest) (cust : CustLanes) (after : Rest) → customer_at m r ≡ Ok (cust, after) → IsCustomer m cust
    by r cust after e =
        let demand = bind-ok (amount_at r) _ (cust, after) e in
        let lanes = bind-ok (lanes_at m demand.0.1) _ (cust, after) demand.2 in
        let made : CustLanes = record { demand = demand.0.0; lanes = lanes.0.0 } in
        let same : made ≡ cust = ap (λ (p : CustLanes × Rest). p.0) (done-same (made, lanes.0.1) (cust, after) lanes.2) in
        let each = lanes_give m demand.0.1 lanes.0.0 lanes.0.1 lanes.1 in
        subst (IsCustomer m) same (record { demand = amount_at-small r demand.0.0 demand.0.1 demand.1; row = each.0; there = each.1 })

-- m warehouses and n customers that were read
module _ (capacities : Capacities) (m n : ℕ) (r : Rest) (sites : List ListedSite) (behind_sites : Rest) (custs : List CustLanes) (behind_custs : Rest) (small : GivesSmall capacities) (sites_read : many_at (λ _. warehouse_at capacities) 0 m r ≡ Ok (sites, behind_sites)) (custs_read : many_at (λ _. customer_at m) 0 n behind_sites ≡ Ok (custs, behind_custs)) where
  warehouses : (length sites ≡ m) × All (IsWarehouse capacities) sites
  warehouses = many_at-each (IsWarehouse capacities) (λ _. warehouse_at capacities) (warehouse_gives capacities small) m 0 r sites behind_sites sites_read

  customers : (length custs ≡ n) × All (IsCustomer m) custs
  customers = many_at-each (IsCustomer m) (λ _. customer_at m) (customer_gives m) n 0 behind_sites custs behind_custs custs_read

  pub are_rows : AreSizes m n → AreCustRows sites custs
  are_rows sizes = record {
    sizes = subst (λ k. AreSizes k (length custs)) (sym warehouses.0) (subst (AreSizes m) (sym customers.0) sizes);
    listed = λ k d below. (warehouses.1 k d below).listed;
    rows = λ k d below. subst (λ j. IsRow j (get_or custs k d).lanes) (sym warehouses.0) (customers.1 k d below).row;
    demands_small = λ k d below. (customers.1 k d below).demand;
  }

  pub no_caps : capacities ≡ Ignored → All (λ s. s.cap ≡ None) sites
  no_caps ignored k d below = (warehouses.1 k d below).limit ignored

  pub all_there : All (λ c. All IsSome c.lanes) custs
  all_there k d below = (customers.1 k d below).there
