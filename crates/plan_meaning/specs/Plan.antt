-- A plan of its two lists, and what it says at a place.
use Rattle.std.specs.Prelude.{ℕ, List, slice_index_or}
use Rattle.location_terms.specs.Plan.{Plan}

abbrev pub plan_of : List ℕ → List (ℕ × ℕ) → Plan
plan_of sites serves = record { sites = sites; serves = serves }

-- the customer at a place of the plan, counted from 0, and the site that serves it
abbrev pub serve_at : Plan → ℕ → ℕ × ℕ
serve_at P k = slice_index_or P.serves k (0, 0)
