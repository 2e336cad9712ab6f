-- The site table of a plan: what each open site serves, what it costs, and its share of the whole cost.
use Rattle.std.specs.Prelude.{◌==◌, ℕ, ◌+◌, ◌-◌, ◌*◌, ◌/◌, List, [], ◌++◌, map, filter, flat_map, find, length, sum_by, Option, None, Some, option_and_then, unwrap_or, codes, if◌then◌else◌}
use Rattle.location_terms.specs.Instance.{Instance, lane, fixed_of}
use Rattle.location_terms.specs.Plan.{Plan, load_of, cost_of}
use Rattle.number_words.specs.Cost.{micro_text}
use Rattle.number_words.specs.Number.{digits_text}

-- the customers that are served from a site, by id
abbrev pub served_from : List (ℕ × ℕ) → ℕ → List ℕ
served_from serves s = map (λ v. v.0) (filter (λ v. v.1 == s) serves)

-- those that the plan serves from it
abbrev pub customers_of : Plan → ℕ → List ℕ
customers_of P s = served_from P.serves s

-- what a site costs in the plan: its fixed cost and the lanes that it uses
abbrev pub site_cost : Instance → Plan → ℕ → ℕ
site_cost I P s = fixed_of I s + sum_by (λ c. unwrap_or (lane I s c) 0) (customers_of P s)

-- the capacity of the site of an id, where it has one
abbrev pub cap_of : Instance → ℕ → Option ℕ
cap_of I s = option_and_then (λ x. x.cap) (find (λ x. x.id == s) I.sites)

-- what is left of a capacity, or the word `none` where there is no capacity
abbrev pub spare_text : Option ℕ → ℕ → List ℕ
spare_text None load = codes "none"
spare_text (Some cap) load = micro_text (cap - load)

-- so much of a whole, in thousandths, rounded down; 0 of nothing
abbrev pub permille : ℕ → ℕ → ℕ
permille part whole = if whole == 0 then 0 else 1000 * part / whole

abbrev pub table_line : Instance → Plan → ℕ → List ℕ
table_line I P s =
    codes "site " ++ digits_text s ++ codes " customers " ++ digits_text (length (customers_of P s)) ++ codes " load " ++ micro_text (load_of I P s)
    ++ codes " spare " ++ spare_text (cap_of I s) (load_of I P s) ++ codes " cost " ++ micro_text (site_cost I P s)
    ++ codes " share " ++ digits_text (permille (site_cost I P s) (cost_of I P)) ++ codes "\n"

-- a line for each open site, where there is a plan
abbrev pub table_lines : Instance → Option Plan → List ℕ
table_lines I None = []
table_lines I (Some P) = flat_map (table_line I P) P.sites

abbrev pub site_table_of : Instance → Option Plan → List ℕ
site_table_of I plan = table_lines I plan ++ codes "end\n"
