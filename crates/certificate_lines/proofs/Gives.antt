-- What a line gives where it is read: the line that is due behind it suits it, what it shows is sound, and the lists of a plan rise.
use Rattle.std.proofs.Common.{◌≡◌, ℕ, Bool, true, false, List, [], Option, None, Some, sym, ◌∙◌, subst}
use Rattle.std.specs.List.Sorted.{IsStrictlyIncreasing}
use Rattle.std.specs.Prelude.{ℤ, Result, Ok, Err, IfOk, if◌then◌else◌}
use Rattle.std.proofs.lemmas.Slice.Zip.{firsts-zip}
use Rattle.location_terms.specs.declared.claim.Claim.{Claim}
use Rattle.location_terms.specs.declared.claim.Claim.TheVariants.{Optimal, Infeasible, Bracket}
use Rattle.location_terms.specs.Instance.{Instance, IsValid, customer_ids}
use Rattle.location_terms.specs.Plan.{IsPlan}
use Rattle.location_terms.specs.Box.{Path}
use Rattle.location_terms.specs.declared.form.LeafForm.{LeafForm}
use Rattle.location_terms.specs.Leaf.{LeafFits, PricesSuit, KnapsacksSuit}
use Rattle.location_terms.proofs.Places.{length-customer_ids}
use Rattle.branch_tree.specs.Walk.{turned}
use Rattle.certificate_lines.specs.Text.{is_all_free}
use Rattle.certificate_lines.specs.Due.{Due, HeaderDue, SizesDue, MustOpenDue, MustClosedDue, ClaimDue, OpenDue, ServeDue, NodeDue, ValuesDue, PricesDue, EndDue, NothingDue, Shown, PlanShown, Suits, behind_claim, node_or_end}
use Rattle.certificate_lines.specs.Lines.{Said, read_line}
use Rattle.certificate_lines.specs.declared.line.Due.{Due as CodeDue}
use Rattle.certificate_lines.specs.declared.line.Shown.{Shown as CodeShown}
use Rattle.certificate_lines.specs.declared.line.LineFault.{LineFault}
use Rattle.certificate_lines.specs.Model.{due_of, shown_of, IsSound, Answers}
use Rattle.certificate_lines.proofs.Prices.{ArePrices}
use Rattle.certificate_lines.proofs.LineSpelling.{Says, duals_in, NodeLine, on_split, on_leaf, IsSpelled, line-spelled}

-- the lists of a plan that is shown rise
abbrev pub IsPlanned : Shown → Type 0
IsPlanned (PlanShown claim P) = IsPlan P
IsPlanned shown = Unit {0}

abbrev pub IsGood : Instance → Due × Shown → Type 0
IsGood I read = Suits I read.0 × IsSound I read.1 × (IsValid I → IsPlanned read.1)

says-good : (I : Instance) (due : Due) (shown : Shown) (read : Due × Shown) → IsGood I (due, shown) → Says due shown read → IsGood I read
says-good I due shown read good says = let same : (due, shown) ≡ read = cc in subst (IsGood I) same good

sizes-suit : (I : Instance) (free : Bool) → Suits I (if free then ClaimDue else MustOpenDue)
sizes-suit I true = tt
sizes-suit I false = tt

claim-suits : (I : Instance) (claim : Claim) → Suits I (behind_claim claim)
claim-suits I (Optimal cost) = tt
claim-suits I Infeasible = tt
claim-suits I (Bracket low None) = tt
claim-suits I (Bracket low (Some high)) = tt

leaf-suits : (I : Instance) (claim : Claim) (next : Option Path) → Suits I (node_or_end claim next)
leaf-suits I claim (Some path) = tt
leaf-suits I claim None = tt

-- the duals of a leaf fit and suit their form
pub leaf_fits : (I : Instance) (form : LeafForm) (q : ℕ) (nu : ℤ) (v : List ℤ) (u : List ℕ) → Suits I (PricesDue Infeasible [] q nu v) → ArePrices I u → PricesSuit form u → KnapsacksSuit form I → LeafFits I (duals_in form q nu v u)
leaf_fits I form q nu v u suits are prices small = record {
  numbers = record {
    in_limits = record { scale = suits.0; count_price = suits.1; values = suits.3; multipliers = are.small };
    of_instance = record { customers = suits.2; sites = are.long; unpriced = are.unpriced };
  };
  prices = prices;
  knapsacks = small;
}

node-good : (I : Instance) (claim : Claim) (path : Path) (line : List ℕ) (read : Due × Shown) → NodeLine I claim path line read → IsGood I read
node-good I claim path line read (on_split split known text says) = says-good I _ _ read (tt, known, λ valid. tt) says
node-good I claim path line read (on_leaf q nu scale price text says) = says-good I _ _ read ((scale, price), tt, λ valid. tt) says

spelled-good : (I : Instance) (due : Due) (line : List ℕ) (read : Due × Shown) → Suits I due → IsSpelled I due line read → IsGood I read
spelled-good I HeaderDue line read suits (text, says) = says-good I _ _ read (tt, tt, λ valid. tt) says
spelled-good I SizesDue line read suits (text, says) = says-good I _ _ read (sizes-suit I (is_all_free I), tt, λ valid. tt) says
spelled-good I MustOpenDue line read suits (text, says) = says-good I _ _ read (tt, tt, λ valid. tt) says
spelled-good I MustClosedDue line read suits (text, says) = says-good I _ _ read (tt, tt, λ valid. tt) says
spelled-good I ClaimDue line read suits (claim, small, text, says) = says-good I _ _ read (claim-suits I claim, tt, λ valid. tt) says
spelled-good I (OpenDue claim) line read suits (sites, rise, known, text, says) = says-good I _ _ read (rise, tt, λ valid. tt) says
spelled-good I (ServeDue claim sites) line read suits (servers, long, known, text, says) =
    says-good I _ _ read
    (tt, tt, λ valid. record { sites_rise = suits; customers_rise = subst IsStrictlyIncreasing (sym (firsts-zip (customer_ids I) servers (long ∙ sym (length-customer_ids I)))) valid.customers_named.rising }) says
spelled-good I (NodeDue claim path) line read suits node = node-good I claim path line read node
spelled-good I (ValuesDue claim path q nu) line read suits (v, long, small, text, says) = says-good I _ _ read ((suits.0, suits.1, long, small), tt, λ valid. tt) says
spelled-good I (PricesDue claim path q nu v) line read suits (form, u, are, prices, small, text, says) = says-good I _ _ read (leaf-suits I claim (turned path), leaf_fits I form q nu v u suits are prices small, λ valid. tt) says
spelled-good I (EndDue claim) line read suits (text, says) = says-good I _ _ read (tt, tt, λ valid. tt) says
spelled-good I (NothingDue claim) line read suits none = absurd none

pub gives-line : (I : Instance) (due : Due) (line : List ℕ) (read : Due × Shown) → Suits I due → read_line I due line ≡ Ok read → IsGood I read
gives-line I due line read suits is = spelled-good I due line read suits (line-spelled I due line read is)

-- what all that is good has, each answer has that says what a line says
pub kept : (I : Instance) (P : Due × Shown → Type 0) → ((read : Due × Shown) → IsGood I read → P read) → (answer : Result (CodeDue × CodeShown) LineFault) (said : Said) → Answers answer said → ((read : Due × Shown) → said ≡ Ok read → IsGood I read) → IfOk answer (λ read. P (due_of read.0, shown_of read.1))
kept I P from (Ok read) said says good = from (due_of read.0, shown_of read.1) (good _ says)
kept I P from (Err fault) said says good = tt
