-- Lines that are held one after another, and what they lead to.
use Rattle.std.proofs.Common.{◌≡◌, ℕ, zero, suc, ◌≤◌, ◌<◌, Bool, true, false, List, [], ◌∷◌, ◌++◌, map, length, take, slice_index_or, fold, Option, None, Some, refl, sym, ap, subst, ◌∙◌, arith}
use Rattle.std.specs.Prelude.{Result, Ok, Err, nat_lt, nat_le, if◌then◌else◌}
use Rattle.std.proofs.lemmas.Bool.{leb-false, ltb-false}
use Rattle.std.proofs.lemmas.List.{append-nil, append_assoc, map-append, length-append}
use Rattle.std.proofs.lemmas.List.Elements.{All-nil, All-push}
use Rattle.std.proofs.lemmas.List.Sums.{fold-append}
use Rattle.location_terms.specs.Instance.{Instance}
use Rattle.fixed_cost.specs.declared.limits.TheConstants.{MAX_INSTANCE_BYTES}
use Rattle.fixed_cost.specs.declared.fault.FileFault.{FileFault}
use Rattle.instance_edits.specs.declared.edit.Edit.{Edit}
use Rattle.instance_edits.specs.declared.edit.EditFault.{EditFault}
use Rattle.instance_edits.specs.Edits.{edited, edited_next, edits_applied}
use Rattle.instance_text.specs.Own.{own_meaning}
use Rattle.edit_history.specs.History.{HeldEdit}
use Rattle.scenario_keeper.specs.Scenario.{Scenario}
use Rattle.session_lines.specs.Lines.{line_edit}
use Rattle.whatif_session.specs.declared.limits.TheConstants.{MAX_EDITS}
use Rattle.whatif_session.specs.State.{SessionView, session_on, with_edit}
use Rattle.desk_session.specs.Loaded.{based_on, begun_with, held_next, holding, holding_line, loaded, next_line}
use Rattle.desk_session.specs.declared.loading.LoadFault.{LoadFault}
use Rattle.desk_session.specs.declared.loading.LoadFault.TheVariants.{BadLine, NoMemory}
use Rattle.desk_session.specs.Done.{IsLoadFault}
use Rattle.desk_session.specs.Leads.{HoldsLines, LeadsTo}

-- Where a line is bad, so is the scenario, at that line.

-- a line that is refused ends it
pub stuck : (n : ℕ) (lines : List (List ℕ)) → fold held_next (Err n) lines ≡ Err n
stuck n [] = refl
stuck n (line ∷ lines) = stuck n lines

stops_at : (start : Result SessionView ℕ) (edits : List (List ℕ)) (k : ℕ) (session : SessionView) (n : ℕ) → k < length edits → fold held_next start (take k edits) ≡ Ok session
    → held_next (Ok session) (slice_index_or edits k []) ≡ Err n → fold held_next start edits ≡ Err n
stops_at start [] k session n few led bad = absurd (omega (arith, few))
stops_at start (line ∷ lines) zero session n few led bad = ap (λ r. fold held_next r lines) (ap (λ r. held_next r line) led ∙ bad) ∙ stuck n lines
stops_at start (line ∷ lines) (suc k) session n few led bad = stops_at (held_next start line) lines k session n (omega (arith, few)) led bad

pub fault_at : (old session : SessionView) (edits : List (List ℕ)) (k : ℕ) (line : List ℕ) (fault : LoadFault) → k < length edits → fold held_next (Ok old) (take k edits) ≡ Ok session
    → line ≡ slice_index_or edits k [] → IsLoadFault (held_next (Ok session) line) fault → IsLoadFault (fold held_next (Ok old) edits) fault
fault_at old session edits k line (BadLine n) few led is bad = stops_at (Ok old) edits k session n few led (subst (λ l. held_next (Ok session) l ≡ Err n) is bad)
fault_at old session edits k line NoMemory few led is bad = tt

pub bad_base : (scenario : Scenario) (fault : LoadFault) → IsLoadFault (based_on scenario.base) fault → IsLoadFault (loaded scenario) fault
bad_base scenario (BadLine n) is = ap (λ r. fold held_next r scenario.edits) is ∙ stuck n scenario.edits
bad_base scenario NoMemory is = tt

-- whether a session was read
abbrev is_read : Result SessionView ℕ → Bool
is_read (Ok session) = true
is_read (Err n) = false

-- what was read out, or something else where nothing was
abbrev read_or : SessionView → Result SessionView ℕ → SessionView
read_or other (Ok session) = session
read_or other (Err n) = other

module _ (done : List (List ℕ)) (line : List ℕ) (old new : SessionView) (holds : HoldsLines done old) where
  accepted : (e : Edit) (r : Result Instance EditFault) → line_edit line ≡ Some e → length old.state.edits < MAX_EDITS → edited old.instance e ≡ r → holding old e r ≡ Ok new → HoldsLines (done ++ line ∷ []) new
  accepted e (Err refusal) asked few made is = absurd cc
  accepted e (Ok J) asked few made is =
      let held : HeldEdit = record { edit = e; serial = old.state.present } in
      let next : SessionView = record { state = with_edit old.state e; instance = J } in
      let same : next ≡ new = ap (read_or next) is in
      let edits : List Edit = map (λ held. held.edit) old.state.edits in
      subst (HoldsLines (done ++ line ∷ [])) same record {
        lines_of = map-append line_edit done (line ∷ []) ∙ (λ i. holds.lines_of i ++ asked i ∷ []) ∙ sym (map-append (λ (h : HeldEdit). Some h.edit) old.state.edits (held ∷ []));
        few = omega (arith, few, length-append old.state.edits (held ∷ []));
        led = ap (edits_applied old.state.base) (map-append (λ (h : HeldEdit). h.edit) old.state.edits (held ∷ []))
            ∙ fold-append edited_next (Ok old.state.base) edits (e ∷ []) ∙ ap (λ r. edited_next r e) holds.led ∙ made;
        unsolved = (holds.unsolved.0, holds.unsolved.1, refl);
        serials = All-push (λ (h : HeldEdit). h.serial ≡ None) old.state.edits held holds.serials holds.unsolved.1;
      }

  within : (full : Bool) (e : Edit) → nat_le MAX_EDITS (length old.state.edits) ≡ full → line_edit line ≡ Some e
      → (if full then Err (next_line old) else holding old e (edited old.instance e)) ≡ Ok new → HoldsLines (done ++ line ∷ []) new
  within true e full asked is = absurd cc
  within false e full asked is = accepted e (edited old.instance e) asked (leb-false MAX_EDITS (length old.state.edits) full) refl is

  one_more : (o : Option Edit) → line_edit line ≡ o → holding_line old o ≡ Ok new → HoldsLines (done ++ line ∷ []) new
  one_more None asked is = absurd cc
  one_more (Some e) asked is = within (nat_le MAX_EDITS (length old.state.edits)) e refl asked is

-- The base stays.
held_base : (old new : SessionView) (e : Edit) (r : Result Instance EditFault) → holding old e r ≡ Ok new → new.state.base ≡ old.state.base
held_base old new e (Err refusal) is = absurd cc
held_base old new e (Ok J) is = ap (λ (s : SessionView). s.state.base) (sym (ap (read_or old) is))

next_base : (old new : SessionView) (o : Option Edit) → holding_line old o ≡ Ok new → new.state.base ≡ old.state.base
next_base old new None is = absurd cc
next_base old new (Some e) is = within (nat_le MAX_EDITS (length old.state.edits)) is
  where
    within : (full : Bool) → (if full then Err (next_line old) else holding old e (edited old.instance e)) ≡ Ok new → new.state.base ≡ old.state.base
    within true is = absurd cc
    within false is = held_base old new e (edited old.instance e) is

base_kept : (old new : SessionView) (lines : List (List ℕ)) → fold held_next (Ok old) lines ≡ Ok new → new.state.base ≡ old.state.base
base_kept old new [] is = ap (λ (s : SessionView). s.state.base) (sym (ap (read_or old) is))
base_kept old new (line ∷ lines) is = go (λ session rest. base_kept session new lines rest) (held_next (Ok old) line) refl is
  where
    go : ((session : SessionView) → fold held_next (Ok session) lines ≡ Ok new → new.state.base ≡ session.state.base)
        → (r : Result SessionView ℕ) → held_next (Ok old) line ≡ r → fold held_next r lines ≡ Ok new → new.state.base ≡ old.state.base
    go again (Err n) next rest =
        let bad : false ≡ true = ap is_read (sym (stuck n lines) ∙ rest) in
        absurd cc
    go again (Ok session) next rest = again session rest ∙ next_base old session (line_edit line) next

-- line by line
all_held : (done lines : List (List ℕ)) (old new : SessionView) → HoldsLines done old → fold held_next (Ok old) lines ≡ Ok new → HoldsLines (done ++ lines) new
all_held done [] old new holds is = subst (λ ls. HoldsLines ls new) (sym (append-nil done)) (subst (HoldsLines done) (ap (read_or old) is) holds)
all_held done (line ∷ lines) old new holds is = go (λ session more rest. all_held (done ++ line ∷ []) lines session new more rest) (held_next (Ok old) line) refl is
  where
    go : ((session : SessionView) → HoldsLines (done ++ line ∷ []) session → fold held_next (Ok session) lines ≡ Ok new → HoldsLines ((done ++ (line ∷ [])) ++ lines) new)
        → (r : Result SessionView ℕ) → held_next (Ok old) line ≡ r → fold held_next r lines ≡ Ok new → HoldsLines (done ++ line ∷ lines) new
    go again (Err n) next rest =
        let bad : false ≡ true = ap is_read (sym (stuck n lines) ∙ rest) in
        absurd cc
    go again (Ok session) next rest =
        let more : HoldsLines (done ++ line ∷ []) session = one_more done line old session holds (line_edit line) refl next in
        subst (λ ls. HoldsLines ls new) (append_assoc done (line ∷ []) lines) (again session more rest)

-- the base, and its lines
module _ (scenario : Scenario) (session : SessionView) where
  by_meaning : length scenario.base ≤ MAX_INSTANCE_BYTES → (r : Result Instance FileFault) → own_meaning scenario.base ≡ r → fold held_next (begun_with r) scenario.edits ≡ Ok session → LeadsTo scenario session
  by_meaning short (Err fault) meaning is =
      let bad : false ≡ true = ap is_read (sym (stuck 0 scenario.edits) ∙ is) in
      absurd cc
  by_meaning short (Ok I) meaning is = record {
    within = short;
    base = meaning ∙ ap Ok (sym (base_kept (session_on I) session scenario.edits is));
    holds = all_held [] scenario.edits (session_on I) session (nothing I) is;
  }
    where
      nothing : (I : Instance) → HoldsLines [] (session_on I)
      nothing I = record { lines_of = refl; few = omega arith; led = refl; unsolved = (refl, refl, refl); serials = All-nil (λ (h : HeldEdit). h.serial ≡ None) }

  by_length : (long : Bool) → nat_lt MAX_INSTANCE_BYTES (length scenario.base) ≡ long → fold held_next (if long then Err 0 else begun_with (own_meaning scenario.base)) scenario.edits ≡ Ok session → LeadsTo scenario session
  by_length true long is =
      let bad : false ≡ true = ap is_read (sym (stuck 0 scenario.edits) ∙ is) in
      absurd cc
  by_length false fits is = by_meaning (ltb-false MAX_INSTANCE_BYTES (length scenario.base) fits) (own_meaning scenario.base) refl is

  -- a loaded scenario leads to its session
  pub leads_to : loaded scenario ≡ Ok session → LeadsTo scenario session
  leads_to is = by_length (nat_lt MAX_INSTANCE_BYTES (length scenario.base)) refl is
