-- For private functions alone: no public contract cites this page.
-- A claim and its plan as a value of JSON, whose members are in the order of their keys.
use Rattle.std.specs.Prelude.{ℕ, List, [], ◌∷◌, map, Option, None, Some, codes}
use Rattle.location_terms.specs.declared.claim.Claim.{Claim}
use Rattle.location_terms.specs.declared.claim.Claim.TheVariants.{Optimal, Infeasible, Bracket}
use Rattle.location_terms.specs.Instance.{Instance, fixed_of}
use Rattle.location_terms.specs.Plan.{Plan}
use Rattle.number_words.specs.Cost.{micro_text}
use Rattle.report.specs.SiteTable.{customers_of}
use Rattle.serde_json.specs.Data.{Data, null, number, unsigned, string, array, object, Items, member, no_members}
use Rattle.serde_json.specs.View.{items_of}

abbrev pub ids_data : List ℕ → Data
ids_data ids = array (items_of (map (λ n. number (unsigned n)) ids))

abbrev pub amount_data : ℕ → Data
amount_data amount = string (micro_text amount)

abbrev pub maybe_data : Option ℕ → Data
maybe_data None = null
maybe_data (Some amount) = amount_data amount

abbrev pub site_data : List ℕ → ℕ → ℕ → Data
site_data custs fixed id =
    object (member (codes "customers") (ids_data custs) (member (codes "fixed") (amount_data fixed) (member (codes "id") (number (unsigned id)) no_members)))

abbrev pub open_data : Instance → Plan → ℕ → Data
open_data I P s = site_data (customers_of P s) (fixed_of I s) s

abbrev pub sites_data : Instance → Option Plan → Data
sites_data I None = array (items_of [])
sites_data I (Some P) = array (items_of (map (open_data I P) P.sites))

abbrev pub optimal_data : ℕ → Data → Data
optimal_data cost sites = object (member (codes "answer") (string (codes "optimal")) (member (codes "cost") (amount_data cost) (member (codes "sites") sites no_members)))

abbrev pub infeasible_data : Data
infeasible_data = object (member (codes "answer") (string (codes "infeasible")) no_members)

abbrev pub bracket_data : ℕ → Option ℕ → Data → Data
bracket_data low high sites =
    object
    (member (codes "answer") (string (codes "bracket"))
    (member (codes "cost") (maybe_data high) (member (codes "low") (amount_data low) (member (codes "sites") sites no_members))))

abbrev pub answer_data : Instance → Claim → Option Plan → Data
answer_data I (Optimal cost) plan = optimal_data cost (sites_data I plan)
answer_data I Infeasible plan = infeasible_data
answer_data I (Bracket low high) plan = bracket_data low high (sites_data I plan)
