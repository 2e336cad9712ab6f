-- Lines that are read without a fault to the end are the text of a certificate that has one, and show what it shows.
use Rattle.std.proofs.Common.{◌≡◌, ℕ, zero, suc, ◌+◌, ◌≤◌, refl, sym, ap, ◌∙◌, subst, arith, Bool, true, false, List, [], ◌∷◌, ◌++◌, length, append-nil, append_assoc, length-append, Some, None}
use Rattle.std.specs.Prelude.{Option, All, Contains, ℤ, pos, codes, zip, unsigned_abs, if◌then◌else◌}
use Rattle.std.specs.List.Sorted.{IsStrictlyIncreasing}
use Rattle.std.proofs.lemmas.List.Elements.{All-nil, All-cons, All-head, All-tail, All-append, All-weaker}
use Rattle.std.proofs.lemmas.Slice.Zip.{firsts-zip, seconds-zip}
use Rattle.location_terms.specs.declared.claim.Claim.{Claim}
use Rattle.location_terms.specs.declared.claim.Claim.TheVariants.{Optimal, Infeasible, Bracket}
use Rattle.location_terms.specs.declared.split.Split.{Split}
use Rattle.location_terms.specs.declared.limits.TheConstants.{MAX_SCALE, MAX_VALUE}
use Rattle.location_terms.specs.Instance.{Instance, IsValid, site_ids, customer_ids}
use Rattle.location_terms.specs.Plan.{Plan}
use Rattle.location_terms.specs.Box.{Path, must_open, must_close}
use Rattle.location_terms.specs.Split.{first_step, second_step}
use Rattle.location_terms.specs.Bound.{Duals}
use Rattle.location_terms.specs.Leaf.{LeafFits}
use Rattle.location_terms.specs.Tree.{Node, Leaf, Fork, SplitsAmong, HasLists, leaves_below}
use Rattle.location_terms.specs.Certificate.{Certificate, cost_claimed}
use Rattle.location_terms.proofs.Places.{length-site_ids, length-customer_ids}
use Rattle.branch_tree.specs.Walk.{turned}
use Rattle.branch_tree.proofs.Ahead.{turned_root}
use Rattle.number_words.specs.Line.{spaced}
use Rattle.number_words.specs.Number.{number_text}
use Rattle.certificate_lines.specs.Text.{counts_line, is_all_free, ids_where, header_words, sizes_line, status_lines, claim_line, plan_lines, node_lines, certificate_lines}
use Rattle.certificate_lines.specs.Due.{Due, HeaderDue, SizesDue, MustOpenDue, MustClosedDue, ClaimDue, OpenDue, ServeDue, NodeDue, ValuesDue, PricesDue, EndDue, NothingDue, Shown, PlanShown, behind_claim, node_or_end}
use Rattle.certificate_lines.specs.Lines.{behind_sizes, plan_from}
use Rattle.certificate_lines.specs.Follow.{shown_list, follow, HasSmallCosts, IsSpellable, HasPlanWhere, HasText, plan_shown, nodes_shown, shown_by}
use Rattle.certificate_lines.proofs.Following.{turned_below_first, turned_below_second, first_read, none_left, none_shown}
use Rattle.certificate_lines.proofs.LineSpelling.{Says, duals_in, NodeLine, on_split, on_leaf, IsSpelled, line-spelled}
use Rattle.certificate_lines.proofs.Gives.{leaf_fits}

-- a plan that is read can be spelled
seconds-known : (known cs ss : List ℕ) → All (Contains known) ss → All (λ (v : ℕ × ℕ). Contains known v.1) (zip cs ss)
seconds-known known [] ss all = All-nil (λ (v : ℕ × ℕ). Contains known v.1)
seconds-known known (c ∷ cs) [] all = All-nil (λ (v : ℕ × ℕ). Contains known v.1)
seconds-known known (c ∷ cs) (s ∷ ss) all = All-cons (λ (v : ℕ × ℕ). Contains known v.1) (c, s) (zip cs ss) (All-head (Contains known) s ss all) (seconds-known known cs ss (All-tail (Contains known) s ss all))

spellable : (I : Instance) (sites servers : List ℕ) → IsValid I → IsStrictlyIncreasing sites → All (Contains (site_ids I)) sites → length servers ≡ length (customer_ids I) → All (Contains (site_ids I)) servers → IsSpellable I (plan_from I sites servers)
spellable I sites servers valid rise known long served_known =
    let each = firsts-zip (customer_ids I) servers long in
    record {
      plan = record { sites_rise = rise; customers_rise = subst IsStrictlyIncreasing (sym each) valid.customers_named.rising };
      sites_known = known;
      each_once = each;
      servers_known = seconds-known (site_ids I) (customer_ids I) servers served_known;
    }

fit_lists : (I : Instance) (leaves : List (Path × Duals)) → All (λ (l : Path × Duals). LeafFits I l.1) leaves → All (λ (l : Path × Duals). HasLists (length (site_ids I)) (length (customer_ids I)) l.1) leaves
fit_lists I leaves fit =
    All-weaker (λ (l : Path × Duals). LeafFits I l.1) (λ (l : Path × Duals). HasLists (length (site_ids I)) (length (customer_ids I)) l.1)
    (λ l f. (f.numbers.of_instance.sites ∙ sym (length-site_ids I), f.numbers.of_instance.customers ∙ sym (length-customer_ids I), f.numbers.in_limits, f.prices)) leaves fit

-- the lines of statuses
abbrev two_lines : Instance → List (List ℕ)
two_lines I = counts_line (codes "must-open") (ids_where must_open I) ∷ counts_line (codes "must-closed") (ids_where must_close I) ∷ []

module _ (I : Instance) (last : Claim) where
  -- lines that are read to the end of a certificate
  abbrev Ends : Due → List (List ℕ) → List Shown → Type 0
  Ends due lines all = follow I due lines ≡ Some (NothingDue last, all)

  -- such lines that begin with these, which show these and leave this due
  record Begun (front : List (List ℕ)) (shown : List Shown) (next : Due) (lines : List (List ℕ)) (all : List Shown) : Type 0 where
    rest : List (List ℕ)
    left : List Shown
    spelled : lines ≡ front ++ rest
    whole : all ≡ shown ++ left
    follows : Ends next rest left

  -- one part behind another
  both : {f g : List (List ℕ)} {s t : List Shown} {mid next : Due} {lines : List (List ℕ)} {all : List Shown} → (a : Begun f s mid lines all) → Begun g t next a.rest a.left → Begun (f ++ g) (s ++ t) next lines all
  both {f} {g} {s} {t} a b = record {
    rest = b.rest;
    left = b.left;
    spelled = a.spelled ∙ ap (λ xs. f ++ xs) b.spelled ∙ sym (append_assoc f g b.rest);
    whole = a.whole ∙ ap (λ xs. s ++ xs) b.whole ∙ sym (append_assoc s t b.left);
    follows = b.follows;
  }

  -- no more lines are left than there were
  no_more : {f : List (List ℕ)} {s : List Shown} {next : Due} {lines : List (List ℕ)} {all : List Shown} → (b : Begun f s next lines all) → length f + length b.rest ≡ length lines
  no_more {f} b = sym (ap length b.spelled ∙ length-append f b.rest)

  -- what is due behind a part, by another name
  leaves : {f : List (List ℕ)} {s : List Shown} {due next : Due} {lines : List (List ℕ)} {all : List Shown} → due ≡ next → Begun f s due lines all → Begun f s next lines all
  leaves {f} {s} {due} {next} {lines} {all} same b = subst (λ d. Begun f s d lines all) same b

  -- where more is to come, a first line is read
  record First (due : Due) (lines : List (List ℕ)) (all : List Shown) : Type 0 where
    line : List ℕ
    read : Due × Shown
    is : IsSpelled I due line read
    begun : Begun (line ∷ []) (shown_list read.1) read.0 lines all

  first : (due : Due) (lines : List (List ℕ)) (all : List Shown) → (due ≡ NothingDue last → ⊥) → Ends due lines all → First due lines all
  first due [] all more e = absurd (more (none_left I due (NothingDue last) all e))
  first due (line ∷ lines) all more e =
      let f = first_read I due line lines (NothingDue last) all e in
      record {
        line = line;
        read = (f.next, f.shown);
        is = line-spelled I due line (f.next, f.shown) f.reads;
        begun = record { rest = lines; left = f.rest; spelled = refl; whole = f.whole; follows = f.follows };
      }

  -- its text and what it says are known
  put : {due next : Due} {lines : List (List ℕ)} {all : List Shown} {text : List ℕ} {shown : Shown} → (f : First due lines all) → f.line ≡ text → Says next shown f.read → Begun (text ∷ []) (shown_list shown) next lines all
  put {due} {next} {lines} {all} {text} {shown} f is says =
      let same : f.read ≡ (next, shown) = cc in
      subst (λ (r : Due × Shown). Begun (text ∷ []) (shown_list r.1) r.0 lines all) same (subst (λ x. Begun (x ∷ []) (shown_list f.read.1) f.read.0 lines all) is f.begun)

  -- the lines before the claim
  header_begun : (lines : List (List ℕ)) (all : List Shown) → Ends HeaderDue lines all → Begun (spaced (header_words I) ∷ []) [] SizesDue lines all
  header_begun lines all e = let f = first HeaderDue lines all (λ d. cc) e in put f f.is.0 f.is.1

  sizes_begun : (lines : List (List ℕ)) (all : List Shown) → Ends SizesDue lines all → Begun (sizes_line I ∷ []) [] (behind_sizes I) lines all
  sizes_begun lines all e = let f = first SizesDue lines all (λ d. cc) e in put f f.is.0 f.is.1

  statuses_begun : (free : Bool) (lines : List (List ℕ)) (all : List Shown) → Ends (if free then ClaimDue else MustOpenDue) lines all → Begun (if free then [] else two_lines I) [] ClaimDue lines all
  statuses_begun true lines all e = record { rest = lines; left = all; spelled = refl; whole = refl; follows = e }
  statuses_begun false lines all e =
      let f = first MustOpenDue lines all (λ d. cc) e in
      let b = put f f.is.0 f.is.1 in
      let g = first MustClosedDue b.rest b.left (λ d. cc) b.follows in
      both b (put g g.is.0 g.is.1)

  claim_begun : (lines : List (List ℕ)) (all : List Shown) → Ends ClaimDue lines all → (claim : Claim) × HasSmallCosts claim × Begun (claim_line claim ∷ []) [] (behind_claim claim) lines all
  claim_begun lines all e = let f = first ClaimDue lines all (λ d. cc) e in (f.is.0, f.is.1, put f f.is.2 f.is.3)

  -- the last line, and nothing behind it
  nothing_left : (claim : Claim) (lines : List (List ℕ)) (all : List Shown) → Ends (NothingDue claim) lines all → (lines ≡ []) × (claim ≡ last) × ([] ≡ all)
  nothing_left claim [] all e =
      let same = none_left I (NothingDue claim) (NothingDue last) all e in
      (refl, cc, none_shown I (NothingDue claim) (NothingDue last) all e)
  nothing_left claim (line ∷ lines) all e = let f = first_read I (NothingDue claim) line lines (NothingDue last) all e in absurd (cc (f.reads))

  ended : (claim : Claim) (lines : List (List ℕ)) (all : List Shown) → Ends (EndDue claim) lines all → (lines ≡ codes "end" ∷ []) × (claim ≡ last) × ([] ≡ all)
  ended claim lines all e =
      let f = first (EndDue claim) lines all (λ d. cc) e in
      let b = put f f.is.0 f.is.1 in
      let none = nothing_left claim b.rest b.left b.follows in
      (b.spelled ∙ ap (λ xs. codes "end" ∷ xs) none.0, none.1, none.2 ∙ sym b.whole)

  module _ (valid : IsValid I) where
    -- the plan, where the claim has a cost to show
    plan_read : (claim : Claim) (lines : List (List ℕ)) (all : List Shown) → Ends (OpenDue claim) lines all → (P : Plan) × IsSpellable I P × Begun (plan_lines (Some P)) (PlanShown claim P ∷ []) (NodeDue claim []) lines all
    plan_read claim lines all e =
        let f = first (OpenDue claim) lines all (λ d. cc) e in
        let b = put f f.is.3 f.is.4 in
        let g = first (ServeDue claim f.is.0) b.rest b.left (λ d. cc) b.follows in
        let long = g.is.1 ∙ sym (length-customer_ids I) in
        let text = g.is.3 ∙ ap (counts_line (codes "serve")) (sym (seconds-zip (customer_ids I) g.is.0 long)) in
        (plan_from I f.is.0 g.is.0, spellable I f.is.0 g.is.0 valid f.is.1 f.is.2 long g.is.2, both b (put g text g.is.4))

    plan_begun : (claim : Claim) (lines : List (List ℕ)) (all : List Shown) → Ends (behind_claim claim) lines all → (plan : Option Plan) × HasPlanWhere I (cost_claimed claim) plan × Begun (plan_lines plan) (plan_shown claim plan) (NodeDue claim []) lines all
    plan_begun (Optimal cost) lines all e = let read = plan_read (Optimal cost) lines all e in (Some read.0, read.1, read.2)
    plan_begun Infeasible lines all e = (None, refl, record { rest = lines; left = all; spelled = refl; whole = refl; follows = e })
    plan_begun (Bracket low None) lines all e = (None, refl, record { rest = lines; left = all; spelled = refl; whole = refl; follows = e })
    plan_begun (Bracket low (Some high)) lines all e = let read = plan_read (Bracket low (Some high)) lines all e in (Some read.0, read.1, read.2)

    module _ (claim : Claim) where
      -- a node that is spelled by the first of these lines
      record NodeRead (path : Path) (lines : List (List ℕ)) (all : List Shown) : Type 0 where
        node : Node
        splits : SplitsAmong (site_ids I) (customer_ids I) node
        fit : All (λ (l : Path × Duals). LeafFits I l.1) (leaves_below path node)
        begun : Begun (node_lines (site_ids I) node) (nodes_shown claim path node) (node_or_end claim (turned path)) lines all

      -- the two children of a split, one behind the other
      record ChildrenRead (path : Path) (split : Split) (lines : List (List ℕ)) (all : List Shown) : Type 0 where
        a : Node
        b : Node
        splits : SplitsAmong (site_ids I) (customer_ids I) a × SplitsAmong (site_ids I) (customer_ids I) b
        fit : All (λ (l : Path × Duals). LeafFits I l.1) (leaves_below (path ++ first_step split ∷ []) a ++ leaves_below (path ++ second_step split ∷ []) b)
        begun : Begun (node_lines (site_ids I) a ++ node_lines (site_ids I) b) (nodes_shown claim (path ++ first_step split ∷ []) a ++ nodes_shown claim (path ++ second_step split ∷ []) b) (node_or_end claim (turned path)) lines all

      leaf_read : (path : Path) (q : ℕ) (nu : ℤ) (lines : List (List ℕ)) (all : List Shown) → q ≤ MAX_SCALE → unsigned_abs nu ≤ MAX_VALUE → Begun (spaced (codes "leaf" ∷ number_text (pos q) ∷ number_text nu ∷ []) ∷ []) [] (ValuesDue claim path q nu) lines all → NodeRead path lines all
      leaf_read path q nu lines all scale price b =
          let f = first (ValuesDue claim path q nu) b.rest b.left (λ d. cc) b.follows in
          let c = put f f.is.3 f.is.4 in
          let g = first (PricesDue claim path q nu f.is.0) c.rest c.left (λ d. cc) c.follows in
          let d = duals_in g.is.0 q nu f.is.0 g.is.1 in
          record {
            node = Leaf d;
            splits = tt;
            fit = All-cons (λ (l : Path × Duals). LeafFits I l.1) (path, d) [] (leaf_fits I g.is.0 q nu f.is.0 g.is.1 (scale, price, f.is.1, f.is.2) g.is.2 g.is.3 g.is.4) (All-nil (λ (l : Path × Duals). LeafFits I l.1));
            begun = both b (both c (put g (g.is.5 valid) g.is.6));
          }

      module _ (n : ℕ) (below : (path : Path) (lines : List (List ℕ)) (all : List Shown) → length lines ≤ n → Ends (NodeDue claim path) lines all → NodeRead path lines all) where
        children : (path : Path) (split : Split) (lines : List (List ℕ)) (all : List Shown) → length lines ≤ n → Ends (NodeDue claim (path ++ first_step split ∷ [])) lines all → ChildrenRead path split lines all
        children path split lines all few e =
            let one = first_step split in
            let two = second_step split in
            let x = below (path ++ one ∷ []) lines all few e in
            let a = leaves (ap (node_or_end claim) (turned_below_first split path)) x.begun in
            let y = below (path ++ two ∷ []) a.rest a.left (omega (arith, few, no_more a)) a.follows in
            record {
              a = x.node;
              b = y.node;
              splits = (x.splits, y.splits);
              fit = All-append (λ (l : Path × Duals). LeafFits I l.1) (leaves_below (path ++ one ∷ []) x.node) (leaves_below (path ++ two ∷ []) y.node) x.fit y.fit;
              begun = both a (leaves (ap (node_or_end claim) (turned_below_second split path)) y.begun);
            }

        node_of : (path : Path) (lines : List (List ℕ)) (all : List Shown) (f : First (NodeDue claim path) lines all) → length lines ≤ suc n → NodeLine I claim path f.line f.read → NodeRead path lines all
        node_of path lines all f few (on_leaf q nu scale price text says) = leaf_read path q nu lines all scale price (put f text says)
        node_of path lines all f few (on_split split known text says) =
            let b = put f text says in
            let c = children path split b.rest b.left (omega (arith, few, no_more b)) b.follows in
            record { node = Fork split c.a c.b; splits = (known, c.splits.0, c.splits.1); fit = c.fit; begun = both b c.begun }

      -- lines that are read where a node is due begin with the text of a node
      node_read : (n : ℕ) (path : Path) (lines : List (List ℕ)) (all : List Shown) → length lines ≤ n → Ends (NodeDue claim path) lines all → NodeRead path lines all
      node_read zero path lines all few e = let f = first (NodeDue claim path) lines all (λ d. cc) e in absurd (omega (arith, few, no_more f.begun))
      node_read (suc n) path lines all few e = let f = first (NodeDue claim path) lines all (λ d. cc) e in node_of n (node_read n) path lines all f few f.is

    -- the lines from the claim on are those of a certificate
    record Body (lines : List (List ℕ)) (shown : List Shown) : Type 0 where
      cert : Certificate
      spelled : lines ≡ claim_line cert.claim ∷ (plan_lines cert.plan ++ (node_lines cert.tree.sites cert.tree.root ++ codes "end" ∷ []))
      claim_is : cert.claim ≡ last
      shown_is : shown ≡ shown_by cert
      has_text : HasText I cert

    body : (lines : List (List ℕ)) (shown : List Shown) → Ends ClaimDue lines shown → Body lines shown
    body lines shown e =
        let claim = claim_begun lines shown e in
        let first = claim.2 in
        let plan = plan_begun claim.0 first.rest first.left first.follows in
        let second = plan.2 in
        let node = node_read claim.0 (length second.rest) [] second.rest second.left (omega arith) second.follows in
        let third = leaves (ap (node_or_end claim.0) turned_root) node.begun in
        let end = ended claim.0 third.rest third.left third.follows in
        record {
          cert = record { claim = claim.0; plan = plan.0; tree = record { sites = site_ids I; customers = customer_ids I; root = node.node } };
          spelled = first.spelled ∙ ap (λ xs. claim_line claim.0 ∷ xs) (second.spelled ∙ ap (λ xs. plan_lines plan.0 ++ xs) (third.spelled ∙ ap (λ xs. node_lines (site_ids I) node.node ++ xs) end.0));
          claim_is = end.1;
          shown_is = first.whole ∙ second.whole ∙ ap (λ xs. plan_shown claim.0 plan.0 ++ xs) (third.whole ∙ ap (λ xs. nodes_shown claim.0 [] node.node ++ xs) (sym end.2) ∙ append-nil (nodes_shown claim.0 [] node.node));
          has_text = record {
            tree = record { splits = node.splits; leaves = fit_lists I (leaves_below [] node.node) node.fit };
            stands = record { sites = refl; customers = refl };
            fit = node.fit;
            costs = claim.1;
            plan = plan.1;
          };
        }

head_joined : (I : Instance) (cert : Certificate) (lines sizes statuses behind : List (List ℕ)) → lines ≡ spaced (header_words I) ∷ sizes → sizes ≡ sizes_line I ∷ statuses → statuses ≡ status_lines I ++ behind
    → behind ≡ claim_line cert.claim ∷ (plan_lines cert.plan ++ (node_lines cert.tree.sites cert.tree.root ++ codes "end" ∷ [])) → lines ≡ certificate_lines I cert
head_joined I cert lines sizes statuses behind e f g h = e ∙ ap (λ xs. spaced (header_words I) ∷ xs) (f ∙ ap (λ xs. sizes_line I ∷ xs) (g ∙ ap (λ xs. status_lines I ++ xs) h))

pub spelled : (I : Instance) (lines : List (List ℕ)) (claim : Claim) (shown : List Shown) → IsValid I → follow I HeaderDue lines ≡ Some (NothingDue claim, shown) → (cert : Certificate) × (lines ≡ certificate_lines I cert) × (cert.claim ≡ claim) × (shown ≡ shown_by cert) × HasText I cert
spelled I lines claim shown valid e =
    let header = header_begun I claim lines shown e in
    let sizes = sizes_begun I claim header.rest header.left header.follows in
    let statuses = statuses_begun I claim (is_all_free I) sizes.rest sizes.left sizes.follows in
    let all = body I claim valid statuses.rest statuses.left statuses.follows in
    (all.cert, head_joined I all.cert lines header.rest sizes.rest statuses.rest header.spelled sizes.spelled statuses.spelled all.spelled, all.claim_is, header.whole ∙ sizes.whole ∙ statuses.whole ∙ all.shown_is, all.has_text)
