-- What is kept of lines that are read, and the certificate that it comes to.
use Rattle.std.proofs.Common.{◌≡◌, ℕ, ◌+◌, ◌≤◌, List, [], ◌∷◌, ◌++◌, length, refl, sym, ap, ◌∙◌, subst, arith, Option, None, Some, append_assoc, append-nil, length-append}
use Rattle.std.specs.Prelude.{flat_map}
use Rattle.location_terms.specs.declared.claim.Claim.{Claim}
use Rattle.location_terms.specs.Instance.{Instance, site_ids, customer_ids}
use Rattle.location_terms.specs.Plan.{Plan}
use Rattle.location_terms.specs.Box.{Path}
use Rattle.location_terms.specs.Split.{first_step, second_step, IsSplitAmong}
use Rattle.location_terms.specs.Tree.{Node, Leaf, Fork, Tree}
use Rattle.location_terms.specs.Certificate.{Certificate}
use Rattle.location_terms.proofs.Places.{length-site_ids, length-customer_ids}
use Rattle.branch_tree.specs.declared.entry.Entry.{Entry}
use Rattle.branch_tree.specs.declared.entry.Entry.TheVariants.{End, Branch}
use Rattle.branch_tree.specs.Begun.{Begun}
use Rattle.branch_tree.specs.Preorder.{flat, tree_of-flat}
use Rattle.branch_tree.specs.Walk.{IsWhole}
use Rattle.branch_tree.proofs.Whole.{whole-flat}
use Rattle.certificate_lines.specs.Due.{Shown, NothingShown, PlanShown, SplitShown, LeafShown}
use Rattle.certificate_lines.specs.Follow.{shown_list, HasText, plan_shown, nodes_shown, shown_by}
use Rattle.certificate_lines.specs.Model.{IsSound}
use Rattle.certificate_text.specs.declared.kept.Kept.{Kept}
use Rattle.certificate_text.specs.Read.{nothing_kept, kept_with, kept_all, FitsOn, certificate_from}

kept_all-append : (kept : Kept) (xs ys : List Shown) → kept_all kept (xs ++ ys) ≡ kept_all (kept_all kept xs) ys
kept_all-append kept [] ys = refl
kept_all-append kept (x ∷ xs) ys = kept_all-append (kept_with kept x) xs ys

kept_all-told : (kept : Kept) (shown : Shown) → kept_all kept (shown_list shown) ≡ kept_with kept shown
kept_all-told kept NothingShown = refl
kept_all-told kept shown = refl

-- lines leave the ids as they are, and each brings one node at most
pub record Grows (lines : ℕ) (old new : Kept) : Type 0 where
  pub sites : new.nodes.sites ≡ old.nodes.sites
  pub customers : new.nodes.customers ≡ old.nodes.customers
  pub few : length new.nodes.entries ≤ length old.nodes.entries + lines

grows_by_one : (kept : Kept) (shown : Shown) → Grows 1 kept (kept_with kept shown)
grows_by_one kept NothingShown = record { sites = refl; customers = refl; few = omega arith }
grows_by_one kept (PlanShown claim P) = record { sites = refl; customers = refl; few = omega arith }
grows_by_one kept (SplitShown split) = record { sites = refl; customers = refl; few = omega (arith, length-append kept.nodes.entries (Branch split ∷ [])) }
grows_by_one kept (LeafShown claim path d) = record { sites = refl; customers = refl; few = omega (arith, length-append kept.nodes.entries (End d ∷ [])) }

grows_by_all : (kept : Kept) (seen : List Shown) → Grows (length seen) kept (kept_all kept seen)
grows_by_all kept [] = record { sites = refl; customers = refl; few = omega arith }
grows_by_all kept (x ∷ xs) =
    let one = grows_by_one kept x in
    let rest = grows_by_all (kept_with kept x) xs in
    record { sites = rest.sites ∙ one.sites; customers = rest.customers ∙ one.customers; few = omega (arith, one.few, rest.few) }

pub grows : (I : Instance) (kept : Kept) (seen : List Shown) → kept ≡ kept_all (nothing_kept I) seen → Grows (length seen) (nothing_kept I) kept
grows I kept seen is = subst (Grows (length seen) (nothing_kept I)) (sym is) (grows_by_all (nothing_kept I) seen)

-- what is shown is on the ids that the tree stands on, where these are the instance's
fits_on : (I : Instance) (nodes : Begun) (shown : Shown) → nodes.sites ≡ site_ids I → nodes.customers ≡ customer_ids I → IsSound I shown → FitsOn nodes shown
fits_on I nodes NothingShown sites customers sound = tt
fits_on I nodes (PlanShown claim P) sites customers sound = tt
fits_on I nodes (SplitShown split) sites customers sound = subst (λ ss. IsSplitAmong ss nodes.customers split) (sym sites) (subst (λ cs. IsSplitAmong (site_ids I) cs split) (sym customers) sound)
fits_on I nodes (LeafShown claim path d) sites customers sound =
    let numbers = sound.numbers in
    (numbers.of_instance.sites ∙ sym (length-site_ids I) ∙ ap length (sym sites), numbers.of_instance.customers ∙ sym (length-customer_ids I) ∙ ap length (sym customers), numbers.in_limits, sound.prices)

pub shown_fits : (I : Instance) (kept : Kept) (seen : List Shown) (shown : Shown) → kept ≡ kept_all (nothing_kept I) seen → IsSound I shown → FitsOn kept.nodes shown
shown_fits I kept seen shown is sound = let grown = grows I kept seen is in fits_on I kept.nodes shown grown.sites grown.customers sound

pub kept_more : (I : Instance) (kept next : Kept) (seen : List Shown) (shown : Shown) → kept ≡ kept_all (nothing_kept I) seen → next ≡ kept_with kept shown → next ≡ kept_all (nothing_kept I) (seen ++ shown ∷ [])
kept_more I kept next seen shown is keeps = keeps ∙ ap (λ k. kept_with k shown) is ∙ sym (kept_all-append (nothing_kept I) seen (shown ∷ []))

-- what is kept is what the lines tell
kept_told : (kept : Kept) (seen : List Shown) → kept_all kept (flat_map shown_list seen) ≡ kept_all kept seen
kept_told kept [] = refl
kept_told kept (x ∷ xs) =
    kept_all-append kept (shown_list x) (flat_map shown_list xs)
    ∙ ap (λ k. kept_all k (flat_map shown_list xs)) (kept_all-told kept x)
    ∙ kept_told (kept_with kept x) xs

-- with more nodes
abbrev with_nodes : Kept → List Entry → Kept
with_nodes kept es = record kept { nodes = record kept.nodes { entries = kept.nodes.entries ++ es } }

-- with exactly these
abbrev with_only : Kept → List Entry → Kept
with_only kept es = record kept { nodes = record kept.nodes { entries = es } }

-- the nodes of a split and of its children are kept in that order
in_order : (kept : Kept) (e : Entry) (xs ys : List Entry) → with_nodes (with_nodes (with_nodes kept (e ∷ [])) xs) ys ≡ with_nodes kept (e ∷ (xs ++ ys))
in_order kept e xs ys =
    ap (with_only kept)
    (append_assoc (kept.nodes.entries ++ e ∷ []) xs ys ∙ append_assoc kept.nodes.entries (e ∷ []) (xs ++ ys))

kept_children : (kept : Kept) (xs ys rest : List Shown) (a b : List Entry) (e : Entry)
    → ((k : Kept) (more : List Shown) → kept_all k (xs ++ more) ≡ kept_all (with_nodes k a) more)
    → ((k : Kept) (more : List Shown) → kept_all k (ys ++ more) ≡ kept_all (with_nodes k b) more)
    → kept_all (with_nodes kept (e ∷ [])) ((xs ++ ys) ++ rest) ≡ kept_all (with_nodes kept (e ∷ (a ++ b))) rest
kept_children kept xs ys rest a b e on_a on_b =
    ap (kept_all (with_nodes kept (e ∷ []))) (append_assoc xs ys rest)
    ∙ on_a (with_nodes kept (e ∷ [])) (ys ++ rest)
    ∙ on_b (with_nodes (with_nodes kept (e ∷ [])) a) rest
    ∙ ap (λ k. kept_all k rest) (in_order kept e a b)

-- the nodes of a tree are kept as its nodes in preorder
kept_nodes : (claim : Claim) (path : Path) (t : Node) (kept : Kept) (rest : List Shown) → kept_all kept (nodes_shown claim path t ++ rest) ≡ kept_all (with_nodes kept (flat t)) rest
kept_nodes claim path (Leaf d) kept rest = refl
kept_nodes claim path (Fork split a b) kept rest =
    let below_a = path ++ first_step split ∷ [] in
    let below_b = path ++ second_step split ∷ [] in
    kept_children kept (nodes_shown claim below_a a) (nodes_shown claim below_b b) rest (flat a) (flat b) (Branch split) (kept_nodes claim below_a a) (kept_nodes claim below_b b)

-- what is kept of a whole certificate on the instance
abbrev pub whole_kept : Instance → Option Plan → Node → Kept
whole_kept I plan root = record { plan = plan; nodes = record { sites = site_ids I; customers = customer_ids I; entries = flat root } }

kept_tree : (claim : Claim) (root : Node) (kept : Kept) → kept_all kept (nodes_shown claim [] root) ≡ with_nodes kept (flat root)
kept_tree claim root kept = ap (kept_all kept) (sym (append-nil (nodes_shown claim [] root))) ∙ kept_nodes claim [] root kept []

kept_certificate : (I : Instance) (claim : Claim) (plan : Option Plan) (root : Node) → kept_all (nothing_kept I) (plan_shown claim plan ++ nodes_shown claim [] root) ≡ whole_kept I plan root
kept_certificate I claim None root = kept_tree claim root (nothing_kept I)
kept_certificate I claim (Some P) root = kept_tree claim root (kept_with (nothing_kept I) (PlanShown claim P))

from_whole : (I : Instance) (cert : Certificate) → HasText I cert → certificate_from cert.claim (whole_kept I cert.plan cert.tree.root) ≡ cert
from_whole I cert has =
    ap (λ (t : Tree). let c : Certificate = record { claim = cert.claim; plan = cert.plan; tree = t } in c)
    (ap (λ (root : Node). let t : Tree = record { sites = site_ids I; customers = customer_ids I; root = root } in t) (tree_of-flat cert.tree.root)
    ∙ ap (λ (sites : List ℕ). let t : Tree = record { sites = sites; customers = customer_ids I; root = cert.tree.root } in t) (sym has.stands.sites)
    ∙ ap (λ (customers : List ℕ). let t : Tree = record { sites = cert.tree.sites; customers = customers; root = cert.tree.root } in t) (sym has.stands.customers))

-- a certificate is what is kept of what it shows
pub certificate_kept : (I : Instance) (cert : Certificate) → HasText I cert → certificate_from cert.claim (kept_all (nothing_kept I) (shown_by cert)) ≡ cert
certificate_kept I cert has = ap (certificate_from cert.claim) (kept_certificate I cert.claim cert.plan cert.tree.root) ∙ from_whole I cert has

-- lines that show what a certificate shows are kept as that
pub kept_of : (I : Instance) (cert : Certificate) (seen : List Shown) (kept : Kept) → HasText I cert → kept ≡ kept_all (nothing_kept I) seen → flat_map shown_list seen ≡ shown_by cert → certificate_from cert.claim kept ≡ cert
kept_of I cert seen kept has is shown = ap (certificate_from cert.claim) (is ∙ sym (kept_told (nothing_kept I) seen) ∙ ap (kept_all (nothing_kept I)) shown) ∙ certificate_kept I cert has

pub kept_whole : (I : Instance) (cert : Certificate) (seen : List Shown) (kept : Kept) → kept ≡ kept_all (nothing_kept I) seen → flat_map shown_list seen ≡ shown_by cert → IsWhole (Some []) kept.nodes.entries
kept_whole I cert seen kept is shown =
    let all : kept ≡ whole_kept I cert.plan cert.tree.root = is ∙ sym (kept_told (nothing_kept I) seen) ∙ ap (kept_all (nothing_kept I)) shown ∙ kept_certificate I cert.claim cert.plan cert.tree.root in
    subst (λ (k : Kept). IsWhole (Some []) k.nodes.entries) (sym all) (whole-flat cert.tree.root)
