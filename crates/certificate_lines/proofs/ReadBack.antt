-- The text of a certificate is read without a fault, to its end, and shows the certificate.
use Rattle.std.proofs.Common.{◌≡◌, ℕ, ◌+◌, List, [], ◌∷◌, ◌++◌, length, refl, sym, ap, ◌∙◌, subst, inl, inr, arith, Option, Some, None}
use Rattle.std.specs.Prelude.{All, Contains, Ok, codes, map, pos, zip}
use Rattle.std.proofs.lemmas.Bool.{cases_Bool, true≢false}
use Rattle.std.proofs.lemmas.List.{append-nil, length-append, length-map, get_or_append_left, get_or-append-add}
use Rattle.std.proofs.lemmas.List.Elements.{All-map}
use Rattle.location_terms.specs.declared.claim.Claim.{Claim}
use Rattle.location_terms.specs.declared.claim.Claim.TheVariants.{Optimal, Infeasible, Bracket}
use Rattle.location_terms.specs.declared.split.Split.{Split}
use Rattle.location_terms.specs.Instance.{Instance, IsValid, site_ids, customer_ids}
use Rattle.location_terms.specs.Plan.{Plan}
use Rattle.location_terms.specs.Box.{Path, must_open, must_close}
use Rattle.location_terms.specs.Split.{first_step, second_step}
use Rattle.location_terms.specs.Bound.{Duals}
use Rattle.location_terms.specs.Leaf.{LeafFits}
use Rattle.location_terms.specs.Tree.{Node, Leaf, Fork, SplitsAmong, leaves_below}
use Rattle.location_terms.specs.Certificate.{Certificate, cost_claimed}
use Rattle.location_terms.proofs.Places.{length-customer_ids}
use Rattle.branch_tree.specs.Walk.{turned}
use Rattle.branch_tree.proofs.Ahead.{turned_root}
use Rattle.number_words.specs.Line.{spaced}
use Rattle.number_words.specs.Number.{number_text}
use Rattle.certificate_lines.specs.Text.{is_all_free, ids_where, counts_line, header_words, sizes_line, status_lines, claim_line, split_line, plan_lines, third_line, leaf_lines, node_lines, certificate_lines}
use Rattle.certificate_lines.specs.Due.{Due, HeaderDue, SizesDue, MustOpenDue, MustClosedDue, ClaimDue, OpenDue, ServeDue, NodeDue, ValuesDue, PricesDue, EndDue, NothingDue, Shown, NothingShown, PlanShown, SplitShown, LeafShown, behind_claim, behind_leaf, node_or_end}
use Rattle.certificate_lines.specs.Lines.{behind_sizes, plan_from}
use Rattle.certificate_lines.specs.Follow.{shown_list, follow, IsSpellable, HasPlanWhere, HasText, plan_shown, nodes_shown, shown_by}
use Rattle.certificate_lines.proofs.Following.{turned_below_first, turned_below_second, follow-line, follow-append}
use Rattle.certificate_lines.proofs.Prices.{ArePrices}
use Rattle.certificate_lines.proofs.LineSpelling.{on_split, on_leaf, IsSpelled, line-read}

-- a line that is spelled, in front of lines that are read
spelled_first : (I : Instance) (due next end : Due) (line : List ℕ) (lines : List (List ℕ)) (shown : Shown) (all : List Shown) → IsValid I → IsSpelled I due line (next, shown) → follow I next lines ≡ Some (end, all) → follow I due (line ∷ lines) ≡ Some (end, shown_list shown ++ all)
spelled_first I due next end line lines shown all valid spells e = follow-line I due next end line lines shown all (line-read I due line (next, shown) valid spells) e

-- the lines of statuses, where there are any
both_back : (I : Instance) → IsValid I → follow I MustOpenDue (counts_line (codes "must-open") (ids_where must_open I) ∷ counts_line (codes "must-closed") (ids_where must_close I) ∷ []) ≡ Some (ClaimDue, [])
both_back I valid =
    let closed = counts_line (codes "must-closed") (ids_where must_close I) in
    spelled_first I MustOpenDue MustClosedDue ClaimDue (counts_line (codes "must-open") (ids_where must_open I)) (closed ∷ []) NothingShown [] valid (refl, refl)
    (spelled_first I MustClosedDue ClaimDue ClaimDue closed [] NothingShown [] valid (refl, refl) refl)

statuses_back : (I : Instance) → IsValid I → follow I (behind_sizes I) (status_lines I) ≡ Some (ClaimDue, [])
statuses_back I valid =
    elim (cases_Bool (is_all_free I)) [
      | inl free ↦ rw free refl
      | inr some ↦ rw some (both_back I valid)
    ]

-- a plan is made of the sites and of the servers of the customers
zip-parts : (vs : List (ℕ × ℕ)) → zip (map (λ v. v.0) vs) (map (λ v. v.1) vs) ≡ vs
zip-parts [] = refl
zip-parts (v ∷ vs) = ap (λ ws. v ∷ ws) (zip-parts vs)

plan_from-servers : (I : Instance) (P : Plan) → IsSpellable I P → plan_from I P.sites (map (λ v. v.1) P.serves) ≡ P
plan_from-servers I P spell =
    let with_serves : List (ℕ × ℕ) → Plan = λ vs. record { sites = P.sites; serves = vs } in
    ap with_serves (ap (λ ks. zip ks (map (λ v. v.1) P.serves)) (sym spell.each_once) ∙ zip-parts P.serves)

both_of_plan : (I : Instance) (claim : Claim) (P : Plan) → IsValid I → IsSpellable I P → follow I (OpenDue claim) (plan_lines (Some P)) ≡ Some (NodeDue claim [], PlanShown claim P ∷ [])
both_of_plan I claim P valid spell =
    let servers : List ℕ = map (λ v. v.1) P.serves in
    let long : length servers ≡ length I.customers = length-map P.serves (λ v. v.1) ∙ sym (length-map P.serves (λ v. v.0)) ∙ ap length spell.each_once ∙ length-customer_ids I in
    let serve = counts_line (codes "serve") servers in
    let says = ap (λ (Q : Plan). Ok (NodeDue claim [], PlanShown claim Q)) (plan_from-servers I P spell) in
    spelled_first I (OpenDue claim) (ServeDue claim P.sites) (NodeDue claim []) (counts_line (codes "open") P.sites) (serve ∷ []) NothingShown (PlanShown claim P ∷ []) valid (P.sites, spell.plan.sites_rise, spell.sites_known, refl, refl)
    (spelled_first I (ServeDue claim P.sites) (NodeDue claim []) (NodeDue claim []) serve [] (PlanShown claim P) [] valid (servers, long, All-map (Contains (site_ids I)) (λ v. v.1) P.serves spell.servers_known, refl, says) refl)

-- the plan, where the claim has a cost to show
plan_back : (I : Instance) (claim : Claim) (plan : Option Plan) → IsValid I → HasPlanWhere I (cost_claimed claim) plan → follow I (behind_claim claim) (plan_lines plan) ≡ Some (NodeDue claim [], plan_shown claim plan)
plan_back I (Optimal cost) None valid has = absurd has
plan_back I (Optimal cost) (Some P) valid has = both_of_plan I (Optimal cost) P valid has
plan_back I Infeasible None valid has = refl
plan_back I Infeasible (Some P) valid has = absurd (true≢false has)
plan_back I (Bracket low None) None valid has = refl
plan_back I (Bracket low None) (Some P) valid has = absurd (true≢false has)
plan_back I (Bracket low (Some high)) None valid has = absurd has
plan_back I (Bracket low (Some high)) (Some P) valid has = both_of_plan I (Bracket low (Some high)) P valid has

-- a leaf is read from its three lines
leaf_back : (I : Instance) (claim : Claim) (path : Path) (d : Duals) → IsValid I → LeafFits I d → follow I (NodeDue claim path) (leaf_lines (site_ids I) d) ≡ Some (behind_leaf claim path, LeafShown claim path d ∷ [])
leaf_back I claim path d valid fit =
    let end = behind_leaf claim path in
    let shown = LeafShown claim path d in
    let values = spaced (codes "v" ∷ map number_text d.v) in
    let third = third_line d.form (site_ids I) d in
    let numbers = fit.numbers in
    let prices : ArePrices I d.u = record { long = numbers.of_instance.sites; small = numbers.in_limits.multipliers; unpriced = numbers.of_instance.unpriced } in
    spelled_first I (NodeDue claim path) (ValuesDue claim path d.q d.nu) end (spaced (codes "leaf" ∷ number_text (pos d.q) ∷ number_text d.nu ∷ [])) (values ∷ third ∷ []) NothingShown (shown ∷ []) valid (on_leaf d.q d.nu numbers.in_limits.scale numbers.in_limits.count_price refl refl)
    (spelled_first I (ValuesDue claim path d.q d.nu) (PricesDue claim path d.q d.nu d.v) end values (third ∷ []) NothingShown (shown ∷ []) valid (d.v, numbers.of_instance.customers, numbers.in_limits.values, refl, refl)
    (spelled_first I (PricesDue claim path d.q d.nu d.v) end end third [] shown [] valid (d.form, d.u, prices, fit.prices, fit.knapsacks, (λ v. refl), refl) refl))

-- what is read of a node below a path
abbrev IsBack : Instance → Claim → Path → Node → Type 0
IsBack I claim path t = follow I (NodeDue claim path) (node_lines (site_ids I) t) ≡ Some (node_or_end claim (turned path), nodes_shown claim path t)

-- the two children of a split
children : (I : Instance) (claim : Claim) (path : Path) (split : Split) (a b : Node) → IsBack I claim (path ++ first_step split ∷ []) a → IsBack I claim (path ++ second_step split ∷ []) b
    → follow I (NodeDue claim (path ++ first_step split ∷ [])) (node_lines (site_ids I) a ++ node_lines (site_ids I) b) ≡ Some (node_or_end claim (turned path), nodes_shown claim (path ++ first_step split ∷ []) a ++ nodes_shown claim (path ++ second_step split ∷ []) b)
children I claim path split a b on_a on_b =
    let below_a = path ++ first_step split ∷ [] in
    let below_b = path ++ second_step split ∷ [] in
    follow-append I (NodeDue claim below_a) (NodeDue claim below_b) (node_or_end claim (turned path)) (node_lines (site_ids I) a) (node_lines (site_ids I) b) (nodes_shown claim below_a a) (nodes_shown claim below_b b)
    (on_a ∙ ap (λ o. Some (node_or_end claim o, nodes_shown claim below_a a)) (turned_below_first split path))
    (on_b ∙ ap (λ o. Some (node_or_end claim o, nodes_shown claim below_b b)) (turned_below_second split path))

-- leaves that fit fit in both parts of their list
fits_parts : (I : Instance) (xs ys : List (Path × Duals)) → All (λ l. LeafFits I l.1) (xs ++ ys) → All (λ l. LeafFits I l.1) xs × All (λ l. LeafFits I l.1) ys
fits_parts I xs ys fit = (λ k d within. subst (λ l. LeafFits I l.1) (get_or_append_left xs ys d k within) (fit k d (omega (arith, length-append xs ys))), λ k d within. subst (λ l. LeafFits I l.1) (get_or-append-add xs ys k d) (fit (length xs + k) d (omega (arith, length-append xs ys))))

nodes_back : (I : Instance) (claim : Claim) (path : Path) (t : Node) → IsValid I → SplitsAmong (site_ids I) (customer_ids I) t → All (λ l. LeafFits I l.1) (leaves_below path t) → IsBack I claim path t
nodes_back I claim path (Leaf d) valid splits fit = leaf_back I claim path d valid (fit 0 (path, d) (omega arith))
nodes_back I claim path (Fork split a b) valid splits fit =
    let below_a = path ++ first_step split ∷ [] in
    let below_b = path ++ second_step split ∷ [] in
    let parts = fits_parts I (leaves_below below_a a) (leaves_below below_b b) fit in
    spelled_first I (NodeDue claim path) (NodeDue claim below_a) (node_or_end claim (turned path)) (split_line split) (node_lines (site_ids I) a ++ node_lines (site_ids I) b) (SplitShown split) (nodes_shown claim below_a a ++ nodes_shown claim below_b b) valid (on_split split splits.0 refl refl)
    (children I claim path split a b (nodes_back I claim below_a a valid splits.1 parts.0) (nodes_back I claim below_b b valid splits.2 parts.1))

-- the tree, and the last line behind it
tree_back : (I : Instance) (cert : Certificate) → IsValid I → HasText I cert → follow I (NodeDue cert.claim []) (node_lines cert.tree.sites cert.tree.root ++ codes "end" ∷ []) ≡ Some (NothingDue cert.claim, nodes_shown cert.claim [] cert.tree.root)
tree_back I cert valid has =
    let claim = cert.claim in
    let root = cert.tree.root in
    let splits : SplitsAmong (site_ids I) (customer_ids I) root = subst (λ ss. SplitsAmong ss (customer_ids I) root) has.stands.sites (subst (λ cs. SplitsAmong cert.tree.sites cs root) has.stands.customers has.tree.splits) in
    let nodes = nodes_back I claim [] root valid splits has.fit ∙ ap (λ o. Some (node_or_end claim o, nodes_shown claim [] root)) turned_root in
    ap (λ ss. follow I (NodeDue claim []) (node_lines ss root ++ codes "end" ∷ [])) has.stands.sites
    ∙ follow-append I (NodeDue claim []) (EndDue claim) (NothingDue claim) (node_lines (site_ids I) root) (codes "end" ∷ []) (nodes_shown claim [] root) [] nodes
    (spelled_first I (EndDue claim) (NothingDue claim) (NothingDue claim) (codes "end") [] NothingShown [] valid (refl, refl) refl)
    ∙ ap (λ shown. Some (NothingDue claim, shown)) (append-nil (nodes_shown claim [] root))

pub read_back : (I : Instance) (cert : Certificate) → IsValid I → HasText I cert → follow I HeaderDue (certificate_lines I cert) ≡ Some (NothingDue cert.claim, shown_by cert)
read_back I cert valid has =
    let end = NothingDue cert.claim in
    let nodes = node_lines cert.tree.sites cert.tree.root ++ codes "end" ∷ [] in
    let from_claim = claim_line cert.claim ∷ (plan_lines cert.plan ++ nodes) in
    let plan = follow-append I (behind_claim cert.claim) (NodeDue cert.claim []) end (plan_lines cert.plan) nodes (plan_shown cert.claim cert.plan) (nodes_shown cert.claim [] cert.tree.root) (plan_back I cert.claim cert.plan valid has.plan) (tree_back I cert valid has) in
    let claim = spelled_first I ClaimDue (behind_claim cert.claim) end (claim_line cert.claim) (plan_lines cert.plan ++ nodes) NothingShown (shown_by cert) valid (cert.claim, has.costs, refl, refl) plan in
    spelled_first I HeaderDue SizesDue end (spaced (header_words I)) (sizes_line I ∷ (status_lines I ++ from_claim)) NothingShown (shown_by cert) valid (refl, refl)
    (spelled_first I SizesDue (behind_sizes I) end (sizes_line I) (status_lines I ++ from_claim) NothingShown (shown_by cert) valid (refl, refl)
    (follow-append I (behind_sizes I) ClaimDue end (status_lines I) from_claim [] (shown_by cert) (statuses_back I valid) claim))
