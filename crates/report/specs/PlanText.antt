-- The plan text: the claim, the open sites with their fixed costs, and who serves each customer at what cost.
use Rattle.std.specs.Prelude.{ℕ, List, [], ◌++◌, flat_map, Option, None, Some, unwrap_or, codes}
use Rattle.location_terms.specs.declared.claim.Claim.{Claim}
use Rattle.location_terms.specs.Instance.{Instance, lane, fixed_of}
use Rattle.location_terms.specs.Plan.{Plan}
use Rattle.number_words.specs.Cost.{micro_text}
use Rattle.number_words.specs.Number.{digits_text}
use Rattle.fixed_cost.specs.Claim.{claim_text}

-- an open site and what it costs to open it
abbrev pub site_line : Instance → ℕ → List ℕ
site_line I s = codes "site " ++ digits_text s ++ codes " " ++ micro_text (fixed_of I s) ++ codes "\n"

-- a customer, the site that serves it, and the cost of the lane
abbrev pub serve_line : Instance → ℕ × ℕ → List ℕ
serve_line I v = codes "serve " ++ digits_text v.0 ++ codes " " ++ digits_text v.1 ++ codes " " ++ micro_text (unwrap_or (lane I v.1 v.0) 0) ++ codes "\n"

abbrev pub plan_report : Instance → Option Plan → List ℕ
plan_report I None = []
plan_report I (Some P) = flat_map (site_line I) P.sites ++ flat_map (serve_line I) P.serves

abbrev pub plan_text_of : Instance → Claim → Option Plan → List ℕ
plan_text_of I claim plan = codes "dualoc-plan 1\n" ++ claim_text claim ++ codes "\n" ++ plan_report I plan ++ codes "end\n"
