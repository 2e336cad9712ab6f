-- The dual ascent: customer by customer, round after round, a dual rises to its customer's next level, or by the slack that its sites have left.
-- After Erlenkotter, Operations Research 26 (1978). Every slack is added anew.
use Rattle.std.specs.Prelude.{◌≡◌, ℕ, ◌<◌, ◌≢◌, ◌==◌, ◌||◌, not, zero, suc, Bool, IsTrue, List, length, map, filter, slice_set, Option, None, Some, option_map, unwrap_or, ℤ, pos, ◌+ℤ◌, ◌-ℤ◌, int_le, if◌then◌else◌}
use Rattle.std.specs.List.{fold, list_any}
use Rattle.std.specs.Int.{int_max, int_min}
use Rattle.location_terms.specs.Instance.{Instance, site_at}
use Rattle.location_terms.specs.Box.{Path, is_opened}
use Rattle.location_terms.specs.Bound.{Duals, v_at, slack_of}
use Rattle.dual_ascent.specs.Levels.{least, customer_places, servers, least_level, next_level, reached}

-- the site pays for no further rise: it is opened, or nothing is left of its slack
abbrev pub is_spent : Instance → Path → Duals → ℕ → Bool
is_spent I path d i = is_opened path (site_at I i) || int_le (slack_of I path d i) (pos 0)

-- the ascent passes the customer over: it has no allowed lane, or its dual reaches a site that is spent, so that raising it alone gains nothing
abbrev pub is_blocked : Instance → Path → Duals → ℕ → Bool
is_blocked I path d j = (length (servers I path j) == 0) || list_any (is_spent I path d) (reached I path d j)

-- every customer is blocked
abbrev pub IsBlocked : Instance → Path → Duals → Type 0
IsBlocked I path d = (j : ℕ) → j < length I.customers → IsTrue (is_blocked I path d j)

-- every customer but one
abbrev pub IsBlockedApart : Instance → Path → ℕ → Duals → Type 0
IsBlockedApart I path apart d = (j : ℕ) → j < length I.customers → j ≢ apart → IsTrue (is_blocked I path d j)

-- the lesser of two numbers, where one may be missing
abbrev pub lesser : Option ℤ → Option ℤ → Option ℤ
lesser None b = b
lesser (Some x) None = Some x
lesser (Some x) (Some y) = Some (int_min x y)

-- how far the customer's dual rises: to its next level, or by the least slack of the sites that it reaches if that is less; there is such a number, above 0, wherever the customer isn't blocked
abbrev pub rise_of : Instance → Path → Duals → ℕ → Option ℤ
rise_of I path d j = lesser (option_map (λ l. l -ℤ v_at d j) (next_level I path d j)) (least (map (slack_of I path d) (reached I path d j)))

-- the duals with this number for the customer
abbrev pub with_v : Duals → ℕ → ℤ → Duals
with_v d j value = record d { v = slice_set d.v j value }

-- the duals with the customer's at least at its least level
abbrev pub seated : Instance → Path → Duals → ℕ → Duals
seated I path d j = with_v d j (int_max (v_at d j) (unwrap_or (least_level I path d j) (v_at d j)))

-- the duals after the customer's rise, where it isn't blocked
abbrev pub raised : Instance → Path → Duals → ℕ → Duals
raised I path d j = if is_blocked I path d j then d else with_v d j (v_at d j +ℤ unwrap_or (rise_of I path d j) (pos 0))

-- the duals after these customers have risen, one after the other
unfoldable pub round : Instance → Path → List ℕ → Duals → Duals
round I path customers d = fold (raised I path) d customers

-- the duals after so many rounds
unfoldable pub rounds : Instance → Path → List ℕ → Duals → ℕ → Duals
rounds I path customers d zero = d
rounds I path customers d (suc k) = round I path customers (rounds I path customers d k)

-- The ascent over these customers: each dual below its customer's least level is set to that level; then rounds follow,
-- and the result stands after some number of them, when one more changes nothing.
pub record IsAscendedOver (I : Instance) (path : Path) (customers : List ℕ) (start result : Duals) : Type 0 where
  pub count : ℕ
  pub after : result ≡ rounds I path customers (fold (seated I path) start customers) count
  pub settled : round I path customers result ≡ result

-- the ascent over all customers, in the order of the instance
abbrev pub IsAscended : Instance → Path → Duals → Duals → Type 0
IsAscended I path start result = IsAscendedOver I path (customer_places I) start result

-- the ascent that passes over one customer
abbrev pub IsAscendedApart : Instance → Path → ℕ → Duals → Duals → Type 0
IsAscendedApart I path apart start result = IsAscendedOver I path (filter (λ j. not (j == apart)) (customer_places I)) start result
