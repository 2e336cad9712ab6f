-- What an instance is: sites that may be opened, customers to be served, and the lanes between them.
-- The simple plant location problem of Erlenkotter, Operations Research 26 (1978), with capacities, a number of sites and statuses.
use Rattle.std.specs.Prelude.{◌≡◌, ℕ, zero, suc, ◌+◌, ◌*◌, ◌<◌, ◌≤◌, ◌==◌, List, [], ◌∷◌, ◌++◌, map, find, length, All, Contains, Option, None, Some, option_map, unwrap_or, IfSome, IsSome, slice_index_or, refl}
use Rattle.std.specs.List.Sorted.{IsStrictlyIncreasing}
use Rattle.std.specs.Ordering.{nat_cmp, ordering_then}
use Rattle.std.specs.declared.cmp.Ordering.{Ordering}
use Rattle.std.specs.FinMap as map_of
use Rattle.std.specs.Coded.{Coded, code_by, coded×, coded_ℕ, coded_list, coded_option}
use Rattle.location_terms.specs.declared.status.SiteStatus.{SiteStatus}
use Rattle.location_terms.specs.declared.status.SiteStatus.TheVariants.{Free, MustOpen, MustClose}
use Rattle.location_terms.specs.declared.limits.TheConstants.{MAX_AMOUNT, MAX_SITES, MAX_CUSTOMERS, MAX_LANES, MAX_ID}

-- a site: what it costs to open it, and the most demand that it serves
pub record Site : Type 0 where
  pub id : ℕ
  pub fixed : ℕ
  pub cap : Option ℕ
  pub status : SiteStatus

-- a customer, who is served whole from one site
pub record Customer : Type 0 where
  pub id : ℕ
  pub demand : ℕ

-- pairs of ids, of a site and of a customer, in order
abbrev pub pair_cmp : ℕ × ℕ → ℕ × ℕ → Ordering
pair_cmp a b = ordering_then (nat_cmp a.0 b.0) (nat_cmp a.1 b.1)

-- what it costs to serve a whole customer from a site, for the pairs that have a lane
abbrev pub Lanes : Type 0
Lanes = map_of.FinMap pair_cmp ℕ

-- costs, demands and capacities in millionths; a plan opens from lo to hi sites; the next ids are those of the next site and customer to come
pub record Instance : Type 0 where
  pub sites : List Site
  pub customers : List Customer
  pub lanes : Lanes
  pub lo : ℕ
  pub hi : ℕ
  pub next_site : ℕ
  pub next_customer : ℕ

abbrev pub site_ids : Instance → List ℕ
site_ids I = map (λ s. s.id) I.sites

abbrev pub customer_ids : Instance → List ℕ
customer_ids I = map (λ c. c.id) I.customers

-- the cost of the lane from a site to a customer, by their ids, where there is that lane
abbrev pub lane : Instance → ℕ → ℕ → Option ℕ
lane I s c = map_of.get I.lanes (s, c)

-- what it costs to open the site of this id
abbrev pub fixed_of : Instance → ℕ → ℕ
fixed_of I s = unwrap_or (option_map (λ x. x.fixed) (find (λ x. x.id == s) I.sites)) 0

-- what the customer of this id demands
abbrev pub demand_of : Instance → ℕ → ℕ
demand_of I c = unwrap_or (option_map (λ x. x.demand) (find (λ x. x.id == c) I.customers)) 0

-- the entries of one row of a table of lane costs, in the order of the ids; pair says which lane belongs to an id
abbrev pub row_entries : (ℕ → ℕ × ℕ) → List ℕ → List (Option ℕ) → List ((ℕ × ℕ) × ℕ)
row_entries pair [] row = []
row_entries pair (c ∷ cs) [] = []
row_entries pair (c ∷ cs) (None ∷ row) = row_entries pair cs row
row_entries pair (c ∷ cs) (Some cost ∷ row) = (pair c, cost) ∷ row_entries pair cs row

abbrev pub table_entries : (ℕ → ℕ → ℕ × ℕ) → List ℕ → List ℕ → List (List (Option ℕ)) → List ((ℕ × ℕ) × ℕ)
table_entries pair [] cs rows = []
table_entries pair (s ∷ ss) cs [] = []
table_entries pair (s ∷ ss) cs (row ∷ rows) = row_entries (pair s) cs row ++ table_entries pair ss cs rows

abbrev pub table_lanes : (ℕ → ℕ → ℕ × ℕ) → List ℕ → List ℕ → List (List (Option ℕ)) → Lanes
table_lanes pair ss cs rows = map_of.from_entries (table_entries pair ss cs rows)

-- the lanes of a table that has a row for each site and in it an entry for each customer
abbrev pub lanes_of : List ℕ → List ℕ → List (List (Option ℕ)) → Lanes
lanes_of ss cs rows = table_lanes (λ s c. (s, c)) ss cs rows

-- the lanes of a table that has a row for each customer and in it an entry for each site
abbrev pub lanes_by_customer : List ℕ → List ℕ → List (List (Option ℕ)) → Lanes
lanes_by_customer ss cs rows = table_lanes (λ c s. (s, c)) cs ss rows

-- the site and the customer at a place of the instance, counted from 0
abbrev pub site_at : Instance → ℕ → Site
site_at I i = slice_index_or I.sites i (record { id = 0; fixed = 0; cap = None; status = Free })

abbrev pub customer_at : Instance → ℕ → Customer
customer_at I j = slice_index_or I.customers j (record { id = 0; demand = 0 })

-- ids count from 1, rise, and are below the next id
pub record AreIds (ids : List ℕ) (next : ℕ) : Type 0 where
  pub positive : All (λ n. 1 ≤ n) ids
  pub rising : IsStrictlyIncreasing ids
  pub below_next : All (λ n. n < next) ids
  pub next_positive : 1 ≤ next
  pub next_small : next ≤ MAX_ID + 1

-- numbers of sites and of customers within the limits
pub record AreSizes (m n : ℕ) : Type 0 where
  pub some_site : 1 ≤ m
  pub few_sites : m ≤ MAX_SITES
  pub some_customer : 1 ≤ n
  pub few_customers : n ≤ MAX_CUSTOMERS
  pub few_lanes : m * n ≤ MAX_LANES

-- an instance within the limits of the suite
pub record IsValid (I : Instance) : Type 0 where
  pub sites_named : AreIds (site_ids I) I.next_site
  pub customers_named : AreIds (customer_ids I) I.next_customer
  pub lanes_known : (s c : ℕ) → IsSome (lane I s c) → Contains (site_ids I) s × Contains (customer_ids I) c
  pub lanes_small : (s c : ℕ) → IfSome (lane I s c) (λ cost. cost ≤ MAX_AMOUNT)
  pub fixed_small : All (λ s. s.fixed ≤ MAX_AMOUNT) I.sites
  pub caps_small : All (λ s. IfSome s.cap (λ cap. cap ≤ MAX_AMOUNT)) I.sites
  pub demands_small : All (λ c. c.demand ≤ MAX_AMOUNT) I.customers
  pub sizes : AreSizes (length I.sites) (length I.customers)
  pub count_order : I.lo ≤ I.hi
  pub count_small : I.hi ≤ MAX_SITES

-- the code by which a struct can have an instance as its value
abbrev pub status_number : SiteStatus → ℕ
status_number Free = 0
status_number MustOpen = 1
status_number MustClose = 2

abbrev pub numbered_status : ℕ → SiteStatus
numbered_status zero = Free
numbered_status (suc zero) = MustOpen
numbered_status (suc (suc n)) = MustClose

pub numbered_status_number : (s : SiteStatus) → numbered_status (status_number s) ≡ s
numbered_status_number Free = refl
numbered_status_number MustOpen = refl
numbered_status_number MustClose = refl

abbrev pub status_code : Coded SiteStatus
status_code = code_by ℕ coded_ℕ status_number numbered_status numbered_status_number

abbrev pub site_code : Coded Site
site_code =
    code_by (ℕ × (ℕ × (Option ℕ × SiteStatus))) (coded× coded_ℕ (coded× coded_ℕ (coded× (coded_option coded_ℕ) status_code)))
    (λ s. (s.id, (s.fixed, (s.cap, s.status)))) (λ p. record { id = p.0; fixed = p.1.0; cap = p.1.1.0; status = p.1.1.1 }) (λ _. refl)

abbrev pub customer_code : Coded Customer
customer_code = code_by (ℕ × ℕ) (coded× coded_ℕ coded_ℕ) (λ c. (c.id, c.demand)) (λ p. record { id = p.0; demand = p.1 }) (λ _. refl)

abbrev pub instance_code : Coded Instance
instance_code =
    code_by (List Site × (List Customer × (Lanes × (ℕ × (ℕ × (ℕ × ℕ))))))
    (coded× (coded_list site_code) (coded× (coded_list customer_code) (coded× (map_of.code (coded× coded_ℕ coded_ℕ) coded_ℕ) (coded× coded_ℕ (coded× coded_ℕ (coded× coded_ℕ coded_ℕ))))))
    (λ I. (I.sites, (I.customers, (I.lanes, (I.lo, (I.hi, (I.next_site, I.next_customer)))))))
    (λ p. record { sites = p.0; customers = p.1.0; lanes = p.1.1.0; lo = p.1.1.1.0; hi = p.1.1.1.1.0; next_site = p.1.1.1.1.1.0; next_customer = p.1.1.1.1.1.1 })
    (λ _. refl)
