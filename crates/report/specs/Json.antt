-- A claim and its plan as one line of JSON (RFC 8259), without spaces: keys in the order of the alphabet, amounts as texts.
use Rattle.std.specs.Prelude.{ℕ, List, [], ◌++◌, map, Option, None, Some, codes}
use Rattle.std.specs.List.{join_with_byte}
use Rattle.location_terms.specs.declared.claim.Claim.{Claim}
use Rattle.location_terms.specs.declared.claim.Claim.TheVariants.{Optimal, Infeasible, Bracket}
use Rattle.location_terms.specs.Instance.{Instance, fixed_of}
use Rattle.location_terms.specs.Plan.{Plan}
use Rattle.number_words.specs.Cost.{micro_text}
use Rattle.number_words.specs.Number.{digits_text}
use Rattle.report.specs.SiteTable.{customers_of}

-- elements in brackets, parted by commas
abbrev pub json_list : List (List ℕ) → List ℕ
json_list elements = codes "[" ++ join_with_byte 44 elements ++ codes "]"

-- an amount in units, as a text
abbrev pub json_amount : ℕ → List ℕ
json_amount amount = codes "\"" ++ micro_text amount ++ codes "\""

abbrev pub json_maybe : Option ℕ → List ℕ
json_maybe None = codes "null"
json_maybe (Some amount) = json_amount amount

-- an open site: the customers that it serves, its fixed cost and its id
abbrev pub json_site : Instance → Plan → ℕ → List ℕ
json_site I P s = codes "{\"customers\":" ++ json_list (map digits_text (customers_of P s)) ++ codes ",\"fixed\":" ++ json_amount (fixed_of I s) ++ codes ",\"id\":" ++ digits_text s ++ codes "}"

-- the open sites, by ascending id, and none where there is no plan
abbrev pub json_sites : Instance → Option Plan → List ℕ
json_sites I None = json_list []
json_sites I (Some P) = json_list (map (json_site I P) P.sites)

abbrev pub json_answer : Instance → Claim → Option Plan → List ℕ
json_answer I (Optimal cost) plan = codes "{\"answer\":\"optimal\",\"cost\":" ++ json_amount cost ++ codes ",\"sites\":" ++ json_sites I plan ++ codes "}"
json_answer I Infeasible plan = codes "{\"answer\":\"infeasible\"}"
json_answer I (Bracket low high) plan =
    codes "{\"answer\":\"bracket\",\"cost\":" ++ json_maybe high ++ codes ",\"low\":" ++ json_amount low ++ codes ",\"sites\":" ++ json_sites I plan ++ codes "}"

abbrev pub json_text_of : Instance → Claim → Option Plan → List ℕ
json_text_of I claim plan = json_answer I claim plan ++ codes "\n"
