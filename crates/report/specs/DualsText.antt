-- The text of duals: the bound that they give where nothing is decided yet, the dual of each customer, and each site's slack.
use Rattle.std.specs.Prelude.{ℕ, suc, ◌^◌, ◌<◌, List, [], ◌++◌, flat_map, length, codes, ℤ, pos, negsuc, ◌≤ℤ◌, ◌<ℤ◌}
use Rattle.std.specs.List.{range_with_len}
use Rattle.location_terms.specs.Instance.{Instance, site_at, customer_at}
use Rattle.location_terms.specs.Bound.{Duals, v_at, slack_of, bound_of}
use Rattle.location_terms.specs.Fit.{DualsFit}
use Rattle.number_words.specs.Cost.{micro_text}
use Rattle.number_words.specs.Number.{digits_text}

-- millionths as text, with six decimals; the program prints none below 0
abbrev pub amount_text : ℤ → List ℕ
amount_text (pos n) = micro_text n
amount_text (negsuc n) = codes "-" ++ micro_text (suc n)

-- a line that gives an amount with an id, behind a word
abbrev pub amount_line : List ℕ → ℕ → ℤ → List ℕ
amount_line word id amount = word ++ digits_text id ++ codes " " ++ amount_text amount ++ codes "\n"

-- the customer at a place, and its dual
abbrev pub customer_line : Instance → Duals → ℕ → List ℕ
customer_line I d j = amount_line (codes "customer ") (customer_at I j).id (v_at d j)

-- the site at a place, and its slack
abbrev pub slack_line : Instance → Duals → ℕ → List ℕ
slack_line I d i = amount_line (codes "site ") (site_at I i).id (slack_of I [] d i)

-- the lines of the bound, of the customers and of the sites, all where nothing is decided
abbrev pub duals_text_of : Instance → Duals → List ℕ
duals_text_of I d =
    codes "bound " ++ amount_text (bound_of I [] d) ++ codes "\n" ++ flat_map (customer_line I d) (range_with_len 0 (length I.customers))
    ++ flat_map (slack_line I d) (range_with_len 0 (length I.sites))

-- a number from 0 up that 64 bits hold
abbrev pub FitsU64 : ℤ → Type 0
FitsU64 z = (pos 0 ≤ℤ z) × (z <ℤ pos (2 ^ 64))

-- duals of the instance that can be printed: they are within its limits, and each number of their text is one from 0 up that 64 bits hold
pub record ArePrintable (I : Instance) (d : Duals) : Type 0 where
  pub fit : DualsFit I d
  pub bound : FitsU64 (bound_of I [] d)
  pub values : (j : ℕ) → j < length I.customers → FitsU64 (v_at d j)
  pub slacks : (i : ℕ) → i < length I.sites → FitsU64 (slack_of I [] d i)
