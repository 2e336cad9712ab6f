-- What a line of a certificate's text says where it is due, or the first kind of fault that it has. The kinds are tried in the order of CertKind, each over the whole line.
use Rattle.std.specs.Prelude.{ℕ, ◌==◌, Bool, true, false, ◌&&◌, ◌||◌, not, List, [], ◌∷◌, ◌++◌, length, map, zip, drop, replicate, codes, Option, None, Some, Result, Ok, Err, ℤ, pos, negsuc, nat_le, unsigned_abs, bytes_eq, is_none, if◌then◌else◌}
use Rattle.std.specs.List.{list_all, list_any}
use Rattle.location_terms.specs.declared.status.SiteStatus.{SiteStatus}
use Rattle.location_terms.specs.declared.claim.Claim.{Claim}
use Rattle.location_terms.specs.declared.claim.Claim.TheVariants.{Optimal, Infeasible, Bracket}
use Rattle.location_terms.specs.declared.form.LeafForm.TheVariants.{Prices, Whole}
use Rattle.location_terms.specs.declared.limits.TheConstants.{MAX_COST, MAX_SITES, MAX_CUSTOMERS, MAX_SCALE, MAX_VALUE, MAX_MULTIPLIER}
use Rattle.location_terms.specs.Instance.{Instance, site_ids, customer_ids}
use Rattle.location_terms.specs.Plan.{Plan}
use Rattle.location_terms.specs.Box.{Path, must_open, must_close}
use Rattle.location_terms.specs.Bound.{Duals}
use Rattle.location_terms.specs.Knapsack.{has_small_knapsacks}
use Rattle.location_terms.specs.declared.split.Split.{Split}
use Rattle.location_terms.specs.declared.split.Split.TheVariants.{Site, Lane}
use Rattle.location_terms.specs.Split.{first_step}
use Rattle.number_words.specs.Line.{words_of_line, is_spaced}
use Rattle.number_words.specs.Number.{is_rising}
use Rattle.number_words.specs.Cost.{is_cost, is_plain_cost, spelled_cost}
use Rattle.certificate_lines.specs.declared.kind.CertKind.{CertKind}
use Rattle.certificate_lines.specs.declared.kind.CertKind.TheVariants.{BadLine, NotCanonical, OutOfRange, WrongSizes, UnknownId, WrongStatus, Trailing}
use Rattle.certificate_lines.specs.Shape.{Shape, Word, Number, row, any_count, just, even_count, text_of_shape, numbers_in}
use Rattle.certificate_lines.specs.Text.{is_all_free, ids_where}
use Rattle.certificate_lines.specs.Due.{Due, HeaderDue, SizesDue, MustOpenDue, MustClosedDue, ClaimDue, OpenDue, ServeDue, NodeDue, ValuesDue, PricesDue, EndDue, NothingDue, Shown, NothingShown, PlanShown, SplitShown, LeafShown, behind_claim, behind_leaf}

-- what a line says: what is due behind it, and what it shows; or its fault
abbrev pub Said : Type 0
Said = Result (Due × Shown) CertKind

abbrev pub then_due : Due → Shown → Said
then_due due shown = Ok (due, shown)

-- the fault of this kind where the test fails, else what follows
abbrev pub unless : Bool → CertKind → Said → Said
unless ok kind rest = if ok then rest else Err kind

-- what a line says by the numbers that its words have in a shape: NotCanonical where it is not the text of these numbers, else what they say. Where its words are not of the shape, it is read otherwise
abbrev pub said_of : Shape → List ℕ → (List ℤ → Said) → Said → Option (List ℤ) → Said
said_of shape line say otherwise None = otherwise
said_of shape line say otherwise (Some zs) = unless (bytes_eq line (text_of_shape shape zs)) NotCanonical (say zs)

-- a line of this shape says what its numbers say; any other is read otherwise
abbrev pub read_or : Shape → List ℕ → (List ℤ → Said) → Said → Said
read_or shape line say otherwise = said_of shape line say otherwise (numbers_in shape (words_of_line line))

-- a line for which no further shape is tried: other words are BadLine
abbrev pub read_shape : Shape → List ℕ → (List ℤ → Said) → Said
read_shape shape line say = read_or shape line say (Err BadLine)

-- a number from 0 to a limit, and one of at most this size
abbrev pub is_up_to : ℕ → ℤ → Bool
is_up_to most (pos n) = nat_le n most
is_up_to most (negsuc n) = false

abbrev pub is_of_size : ℕ → ℤ → Bool
is_of_size most z = nat_le (unsigned_abs z) most

-- an id is a number, not below 0, that 32 bits hold
abbrev pub is_id : ℤ → Bool
is_id z = is_up_to 4294967295 z

-- a size is a number from 1 to its limit
abbrev pub is_size : ℕ → ℤ → Bool
is_size most z = is_up_to most z && not (unsigned_abs z == 0)

-- whether the number is this one
abbrev pub is_same : ℤ → ℕ → Bool
is_same (pos n) s = n == s
is_same (negsuc n) s = false

-- whether the number is one of the ids
abbrev pub is_among : List ℕ → ℤ → Bool
is_among ids z = list_any (is_same z) ids

-- whether the ids are these, in this order
abbrev pub same_ids : List ℕ → List ℤ → Bool
same_ids [] [] = true
same_ids [] (z ∷ zs) = false
same_ids (s ∷ ids) [] = false
same_ids (s ∷ ids) (z ∷ zs) = is_same z s && same_ids ids zs

-- the ids that numbers are
abbrev pub ids : List ℤ → List ℕ
ids zs = map unsigned_abs zs

-- the words behind the first
abbrev pub behind_first : List ℕ → List (List ℕ)
behind_first line = drop 1 (words_of_line line)

-- `dualoc-certificate`, and the version
abbrev pub header_shape : Instance → Shape
header_shape I = Word (codes "dualoc-certificate") (row (if is_all_free I then codes "1" else codes "2") (just 0))

abbrev pub read_header : Instance → List ℕ → Said
read_header I line = read_shape (header_shape I) line (λ zs. then_due SizesDue NothingShown)

-- what is due behind the sizes: the lines of statuses where some site must be open or closed, else the claim
abbrev pub behind_sizes : Instance → Due
behind_sizes I = if is_all_free I then ClaimDue else MustOpenDue

-- `sites M customers N`. A shape has as many numbers as its `said` goes by: other lists do not come
abbrev pub sizes_shape : Shape
sizes_shape = Word (codes "sites") (Number (row (codes "customers") (just 1)))

abbrev pub sizes_said : Instance → List ℤ → Said
sizes_said I (m ∷ n ∷ []) =
    unless (is_size MAX_SITES m && is_size MAX_CUSTOMERS n) OutOfRange
    (unless (is_same m (length I.sites) && is_same n (length I.customers)) WrongSizes
    (then_due (behind_sizes I) NothingShown))
sizes_said I _ = Err BadLine

abbrev pub read_sizes : Instance → List ℕ → Said
read_sizes I line = read_shape sizes_shape line (sizes_said I)

-- the ids of sites, rising, and then what follows
abbrev pub sites_said : Instance → List ℤ → Said → Said
sites_said I zs rest =
    unless (is_rising zs) NotCanonical
    (unless (list_all is_id zs) OutOfRange
    (unless (list_all (is_among (site_ids I)) zs) UnknownId
    rest))

-- the sites of a status
abbrev pub status_said : Instance → (SiteStatus → Bool) → Due → List ℤ → Said
status_said I test next zs = sites_said I zs (unless (same_ids (ids_where test I) zs) WrongStatus (then_due next NothingShown))

abbrev pub read_status : Instance → List ℕ → (SiteStatus → Bool) → Due → List ℕ → Said
read_status I word test next line = read_shape (row word any_count) line (status_said I test next)

-- the words of a claim behind the word `claim`: the claim that they spell, where they spell one and its costs have six decimals
abbrev pub claim_in : List (List ℕ) → Option Claim
claim_in (a ∷ []) = if bytes_eq a (codes "infeasible") then Some Infeasible else None
claim_in (a ∷ c ∷ []) = if bytes_eq a (codes "optimal") && is_cost c then Some (Optimal (spelled_cost c)) else None
claim_in (a ∷ low ∷ high ∷ []) =
    if not (bytes_eq a (codes "bracket") && is_cost low) then None
    else (if bytes_eq high (codes "none") then Some (Bracket (spelled_cost low) None)
    else (if is_cost high then Some (Bracket (spelled_cost low) (Some (spelled_cost high))) else None))
claim_in _ = None

-- each cost among the words is in the one spelling; the fixed words are no costs
abbrev pub has_plain_costs : List (List ℕ) → Bool
has_plain_costs ws = list_all (λ w. not (is_cost w) || is_plain_cost w) ws

abbrev pub has_small_costs : List (List ℕ) → Bool
has_small_costs ws = list_all (λ w. not (is_cost w) || nat_le (spelled_cost w) MAX_COST) ws

abbrev pub claimed : List ℕ → Option Claim → Said
claimed line None = Err BadLine
claimed line (Some claim) =
    unless (is_spaced line && has_plain_costs (behind_first line)) NotCanonical
    (unless (has_small_costs (behind_first line)) OutOfRange
    (then_due (behind_claim claim) NothingShown))

abbrev pub begins : List ℕ → List (List ℕ) → Bool
begins word [] = false
begins word (w ∷ ws) = bytes_eq w word

abbrev pub read_claim : List ℕ → Said
read_claim line = unless (begins (codes "claim") (words_of_line line)) BadLine (claimed line (claim_in (behind_first line)))

-- the open sites of the plan
abbrev pub open_said : Instance → Claim → List ℤ → Said
open_said I claim zs = sites_said I zs (then_due (ServeDue claim (ids zs)) NothingShown)

abbrev pub read_open : Instance → Claim → List ℕ → Said
read_open I claim line = read_shape (row (codes "open") any_count) line (open_said I claim)

-- the plan that opens these sites and serves the customers, in the instance's order, each from its server
abbrev pub plan_from : Instance → List ℕ → List ℕ → Plan
plan_from I sites servers = record { sites = sites; serves = zip (customer_ids I) servers }

-- a site for each customer
abbrev pub serve_said : Instance → Claim → List ℕ → List ℤ → Said
serve_said I claim sites zs =
    unless (list_all is_id zs) OutOfRange
    (unless (list_all (is_among (site_ids I)) zs) UnknownId
    (then_due (NodeDue claim []) (PlanShown claim (plan_from I sites (ids zs)))))

abbrev pub read_serve : Instance → Claim → List ℕ → List ℕ → Said
read_serve I claim sites line = read_shape (row (codes "serve") (just (length I.customers))) line (serve_said I claim sites)

-- a split, behind which its first child is due
abbrev pub split_said : Claim → Path → Split → Said
split_said claim path split = then_due (NodeDue claim (path ++ first_step split ∷ [])) (SplitShown split)

-- a split on a site, by its id
abbrev pub site_said : Instance → Claim → Path → List ℤ → Said
site_said I claim path (s ∷ []) =
    unless (is_id s) OutOfRange
    (unless (is_among (site_ids I) s) UnknownId
    (split_said claim path (Site (unsigned_abs s))))
site_said I claim path _ = Err BadLine

-- a split on a lane, by the ids of its site and its customer
abbrev pub lane_said : Instance → Claim → Path → List ℤ → Said
lane_said I claim path (s ∷ c ∷ []) =
    unless (is_id s && is_id c) OutOfRange
    (unless (is_among (site_ids I) s && is_among (customer_ids I) c) UnknownId
    (split_said claim path (Lane (unsigned_abs s) (unsigned_abs c))))
lane_said I claim path _ = Err BadLine

-- the first line of a leaf, by its scale and the price on the number of sites
abbrev pub leaf_said : Claim → Path → List ℤ → Said
leaf_said claim path (q ∷ nu ∷ []) =
    unless (is_up_to MAX_SCALE q && is_of_size MAX_VALUE nu) OutOfRange
    (then_due (ValuesDue claim path (unsigned_abs q) nu) NothingShown)
leaf_said claim path _ = Err BadLine

-- a node: a split on a site, a split on a lane, or the first line of a leaf
abbrev pub site_shape : Shape
site_shape = row (codes "site") (just 1)

abbrev pub lane_shape : Shape
lane_shape = row (codes "lane") (just 2)

abbrev pub leaf_shape : Shape
leaf_shape = row (codes "leaf") (just 2)

-- the three shapes begin with different words
abbrev pub read_node : Instance → Claim → Path → List ℕ → Said
read_node I claim path line =
    read_or site_shape line (site_said I claim path)
    (read_or lane_shape line (lane_said I claim path)
    (read_shape leaf_shape line (leaf_said claim path)))

-- a dual for each customer
abbrev pub values_said : Claim → Path → ℕ → ℤ → List ℤ → Said
values_said claim path q nu zs =
    unless (list_all (is_of_size MAX_VALUE) zs) OutOfRange
    (then_due (PricesDue claim path q nu zs) NothingShown)

abbrev pub read_values : Instance → Claim → Path → ℕ → ℤ → List ℕ → Said
read_values I claim path q nu line = read_shape (row (codes "v") (just (length I.customers))) line (values_said claim path q nu)

-- the id of a site, and the price of its capacity
abbrev pub Price : Type 0
Price = ℤ × ℤ

-- numbers, two by two; their count is even
abbrev pub pairs_of : List ℤ → List Price
pairs_of [] = []
pairs_of (s ∷ []) = []
pairs_of (s ∷ p ∷ zs) = (s, p) ∷ pairs_of zs

-- whether the instance has a site of this id without a capacity
abbrev pub lacks_cap : Instance → ℤ → Bool
lacks_cap I z = list_any (λ s. is_same z s.id && is_none s.cap) I.sites

abbrev pub is_in_range : Instance → Price → Bool
is_in_range I p = is_id p.0 && is_up_to MAX_MULTIPLIER p.1 && not (lacks_cap I p.0)

-- the price of the site of an id, 0 where none is given
abbrev pub price_in : List Price → ℕ → ℕ
price_in [] s = 0
price_in (p ∷ ps) s = if is_same p.0 s then unsigned_abs p.1 else price_in ps s

abbrev pub duals_from : Instance → ℕ → ℤ → List ℤ → List Price → Duals
duals_from I q nu v ps = record { form = Prices; q = q; nu = nu; v = v; u = map (price_in ps) (site_ids I) }

-- the prices of sites' capacities by the ids of the sites, which rise; no price is 0
abbrev pub prices_said : Instance → Claim → Path → ℕ → ℤ → List ℤ → List Price → Said
prices_said I claim path q nu v ps =
    unless (is_rising (map (λ p. p.0) ps) && list_all (λ p. not (is_same p.1 0)) ps) NotCanonical
    (unless (list_all (is_in_range I) ps) OutOfRange
    (unless (list_all (λ p. is_among (site_ids I) p.0) ps) UnknownId
    (then_due (behind_leaf claim path) (LeafShown claim path (duals_from I q nu v ps)))))

abbrev pub read_prices : Instance → Claim → Path → ℕ → ℤ → List ℤ → List ℕ → Said
read_prices I claim path q nu v line = read_shape (row (codes "u") even_count) line (λ zs. prices_said I claim path q nu v (pairs_of zs))

-- duals without prices; their form is whole
abbrev pub whole_duals : Instance → ℕ → ℤ → List ℤ → Duals
whole_duals I q nu v = record { form = Whole; q = q; nu = nu; v = v; u = replicate (length I.sites) 0 }

-- a leaf of whole knapsacks, which have to be small
abbrev pub whole_said : Instance → Claim → Path → ℕ → ℤ → List ℤ → Said
whole_said I claim path q nu v = unless (has_small_knapsacks I) OutOfRange (then_due (behind_leaf claim path) (LeafShown claim path (whole_duals I q nu v)))

abbrev pub whole_shape : Shape
whole_shape = row (codes "whole") (just 0)

-- the third line of a leaf: the word `whole`, or else prices. The two shapes begin with different words
abbrev pub read_third : Instance → Claim → Path → ℕ → ℤ → List ℤ → List ℕ → Said
read_third I claim path q nu v line = read_or whole_shape line (λ zs. whole_said I claim path q nu v) (read_prices I claim path q nu v line)

-- the last line
abbrev pub read_end : Claim → List ℕ → Said
read_end claim line = read_shape (row (codes "end") (just 0)) line (λ zs. then_due (NothingDue claim) NothingShown)

-- what a line says where it is due
abbrev pub read_line : Instance → Due → List ℕ → Said
read_line I HeaderDue line = read_header I line
read_line I SizesDue line = read_sizes I line
read_line I MustOpenDue line = read_status I (codes "must-open") must_open MustClosedDue line
read_line I MustClosedDue line = read_status I (codes "must-closed") must_close ClaimDue line
read_line I ClaimDue line = read_claim line
read_line I (OpenDue claim) line = read_open I claim line
read_line I (ServeDue claim sites) line = read_serve I claim sites line
read_line I (NodeDue claim path) line = read_node I claim path line
read_line I (ValuesDue claim path q nu) line = read_values I claim path q nu line
read_line I (PricesDue claim path q nu v) line = read_third I claim path q nu v line
read_line I (EndDue claim) line = read_end claim line
read_line I (NothingDue claim) line = Err Trailing
