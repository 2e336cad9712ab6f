-- A path is read back from the node that it comes to.
use Rattle.std.proofs.Common.{◌≡◌, ℕ, ◌+◌, ◌-◌, ◌<◌, ◌≤◌, zero, suc, refl, sym, ap, ◌∙◌, arith, add-one, true, false, List, [], ◌∷◌, ◌++◌, length, length-append, get_or, take, Option, Some, None}
use Rattle.std.specs.Prelude.{fold, slice_get, is_some}
use Rattle.std.proofs.lemmas.List.{take_more}
use Rattle.std.proofs.lemmas.List.Sums.{fold-append}
use Rattle.location_terms.specs.declared.decision.Decision.{Decision}
use Rattle.location_terms.specs.declared.split.Split.{Split}
use Rattle.location_terms.specs.Box.{Path}
use Rattle.location_terms.specs.Split.{first_step, second_step}
use Rattle.branch_tree.specs.declared.entry.Entry.{Entry}
use Rattle.branch_tree.specs.declared.entry.Entry.TheVariants.{End, Branch}
use Rattle.branch_tree.specs.Walk.{next, passed}
use Rattle.branch_tree.specs.Above.{chosen, step_below, done_before, settled}
use Rattle.branch_tree.proofs.Ahead.{next_child, next_behind, next_root}

pub settled_root : (n : ℕ) → settled n [] ≡ []
settled_root zero = refl
settled_root (suc n) = ap (settled n) next_root ∙ settled_root n

-- a split with both children done, or fewer
split_none : (split : Split) (done : ℕ) (path : Path) → chosen (first_step split) (second_step split) done ≡ None → settled done (path ++ first_step split ∷ []) ≡ settled (done - 1) path
split_none split zero path h = cc
split_none split (suc zero) path h = cc
split_none split (suc (suc n)) path h =
    let less : suc (suc n) - 1 ≡ suc n = omega arith in
    ap (λ p. settled n (next p)) (next_child split path)
    ∙ ap (settled n) (next_behind split path)
    ∙ ap (λ k. settled k path) (sym less)

split_some : (split : Split) (done : ℕ) (path : Path) (step : Decision) → chosen (first_step split) (second_step split) done ≡ Some step → settled done (path ++ first_step split ∷ []) ≡ settled (done - 1) path ++ step ∷ []
split_some split zero path step h = let same : first_step split ≡ step = cc in ap (λ d. path ++ d ∷ []) same
split_some split (suc zero) path step h = let same : second_step split ≡ step = cc in next_child split path ∙ ap (λ d. path ++ d ∷ []) same
split_some split (suc (suc n)) path step h = cc

up_none : (e : Entry) (done : ℕ) (path : Path) → step_below e done ≡ None → settled done (passed path e) ≡ settled (done_before e done) path
up_none (End d) done path h = ap (λ k. settled k path) (sym (add-one done))
up_none (Branch split) done path h = split_none split done path h

up_some : (e : Entry) (done : ℕ) (path : Path) (step : Decision) → step_below e done ≡ Some step → settled done (passed path e) ≡ settled (done_before e done) path ++ step ∷ []
up_some (End d) done path step h = cc
up_some (Branch split) done path step h = split_some split done path step h

-- the path to the node at a place
abbrev pub reached : List Entry → ℕ → Path
reached n i = fold passed [] (take i n)

get_last : (path : Path) (step : Decision) → slice_get (path ++ step ∷ []) (length path) ≡ Some step
get_last [] step = refl
get_last (d ∷ ds) step = get_last ds step

get_before : (path : Path) (step : Decision) (k : ℕ) → k < length path → slice_get (path ++ step ∷ []) k ≡ slice_get path k
get_before [] step k h = absurd (omega arith)
get_before (d ∷ ds) step zero h = refl
get_before (d ∷ ds) step (suc k) h = get_before ds step k (omega arith)

module _ (n : List Entry) (p i : ℕ) (e : Entry) (here : e ≡ get_or n i e) (before : p ≡ i + 1) (within : i < length n) where
  reached_next : reached n p ≡ passed (reached n i) e
  reached_next =
      ap (reached n) before
      ∙ ap (fold passed []) (take_more n i e within ∙ ap (λ x. take i n ++ x ∷ []) (sym here))
      ∙ fold-append passed [] (take i n) (e ∷ [])

  pub back_none : (done less : ℕ) → None ≡ step_below e done → less ≡ done_before e done → settled done (reached n p) ≡ settled less (reached n i)
  back_none done less h is = ap (settled done) reached_next ∙ up_none e done (reached n i) (sym h) ∙ ap (λ k. settled k (reached n i)) (sym is)

  pub back_some : (done less : ℕ) (step : Decision) → Some step ≡ step_below e done → less ≡ done_before e done → settled done (reached n p) ≡ settled less (reached n i) ++ step ∷ []
  back_some done less step h is = ap (settled done) reached_next ∙ up_some e done (reached n i) step (sym h) ∙ ap (λ k. settled k (reached n i) ++ step ∷ []) (sym is)

  pub longer_some : (done less : ℕ) (step : Decision) → Some step ≡ step_below e done → less ≡ done_before e done → length (settled done (reached n p)) ≡ length (settled less (reached n i)) + 1
  longer_some done less step h is = ap length (back_some done less step h is) ∙ length-append (settled less (reached n i)) (step ∷ [])

  -- what stands at a place of the path to the later node
  pub here_some : (done less at depth : ℕ) (step : Decision) → Some step ≡ step_below e done → less ≡ done_before e done → depth ≡ length (settled done (reached n p)) → depth - 1 ≡ at → at < depth → slice_get (settled done (reached n p)) at ≡ Some step
  here_some done less at depth step h is long last inside =
      let place : at ≡ length (settled less (reached n i)) = omega (arith, longer_some done less step h is) in
      ap (λ q. slice_get q at) (back_some done less step h is)
      ∙ ap (slice_get (settled less (reached n i) ++ step ∷ [])) place
      ∙ get_last (settled less (reached n i)) step

  pub above_some : (done less at : ℕ) (step : Decision) → Some step ≡ step_below e done → less ≡ done_before e done → at < length (settled less (reached n i)) → slice_get (settled less (reached n i)) at ≡ slice_get (settled done (reached n p)) at
  above_some done less at step h is inside =
      sym (get_before (settled less (reached n i)) step at inside) ∙ sym (ap (λ q. slice_get q at) (back_some done less step h is))

pub done_most : (e : Entry) (done : ℕ) → done_before e done ≤ done + 1
done_most (End d) done = omega arith
done_most (Branch split) done = omega arith

pub something : (o : Option Decision) → is_some o ≡ true → (d : Decision) × (Some d ≡ o)
something None h = cc
something (Some d) h = (d, refl)

pub nothing : (o : Option Decision) → is_some o ≡ false → None ≡ o
nothing None h = refl
nothing (Some d) h = cc

-- no step is left above the root
pub none_above : (n : List Entry) (done p : ℕ) → p ≤ 0 → length (settled done (reached n p)) ≡ 0
none_above n done p h =
    let root : p ≡ 0 = omega arith in
    ap (λ k. length (settled done (reached n k))) root ∙ ap length (settled_root done)
