-- What is kept of a session is loaded as it was.
use Rattle.std.proofs.Common.{◌≡◌, ℕ, ◌+◌, ◌≤◌, Bool, false, List, [], ◌∷◌, ◌++◌, map, length, fold, None, Some, refl, sym, ap, ◌∙◌, arith}
use Rattle.std.specs.Prelude.{Result, Ok, Err, nat_le, if◌then◌else◌}
use Rattle.std.proofs.lemmas.Bool.{lt-leb, le-ltb}
use Rattle.std.proofs.lemmas.List.{append-nil, append_assoc, length-append}
use Rattle.location_terms.specs.Instance.{Instance, IsValid}
use Rattle.fixed_cost.specs.declared.limits.TheConstants.{MAX_INSTANCE_BYTES}
use Rattle.instance_edits.specs.declared.edit.Edit.{Edit}
use Rattle.instance_edits.specs.declared.edit.EditFault.{EditFault}
use Rattle.instance_edits.specs.Edits.{edited, edited_next, edits_applied}
use Rattle.instance_text.specs.Own.{own_meaning}
use Rattle.instance_text.specs.OwnText.{own_text}
use Rattle.instance_text.proofs.ReadBack.{own_text_means}
use Rattle.instance_text.proofs.Lengths.{own_text_short}
use Rattle.edit_history.specs.History.{HeldEdit}
use Rattle.session_lines.specs.Lines.{line_edit}
use Rattle.whatif_session.specs.declared.limits.TheConstants.{MAX_EDITS}
use Rattle.whatif_session.specs.State.{SessionState, SessionView, IsPresent, begun_session, session_on}
use Rattle.desk_session.specs.Loaded.{based_on, begun_with, held_next, holding, holding_line, loaded, next_line}
use Rattle.desk_session.specs.Reloaded.{CanBeLoaded, without_serial, without_solves}
use Rattle.desk_session.specs.State.{AreLinesOf, scenario_of}

stuck_at : (fault : EditFault) (edits : List Edit) → fold edited_next (Err fault) edits ≡ Err fault
stuck_at fault [] = refl
stuck_at fault (e ∷ edits) = stuck_at fault edits

-- a session that holds these edits on a base, where nothing was solved
abbrev on_base : Instance → List HeldEdit → Instance → SessionView
on_base base held I = record { state = record (begun_session base) { edits = held }; instance = I }

module _ (base J : Instance) where
  -- the lines of some edits are held one after another
  held_again : (lines : List (List ℕ)) (edits done : List HeldEdit) (I : Instance) → AreLinesOf lines edits → length done + length edits ≤ MAX_EDITS
      → edits_applied I (map (λ held. held.edit) edits) ≡ Ok J → fold held_next (Ok (on_base base done I)) lines ≡ Ok (on_base base (done ++ map without_serial edits) J)
  held_again [] [] done I are few led =
      let same : I ≡ J = cc in
      λ i. Ok (on_base base (sym (append-nil done) i) (same i))
  held_again [] (held ∷ edits) done I are few led = cc
  held_again (line ∷ lines) [] done I are few led = cc
  held_again (line ∷ lines) (held ∷ edits) done I are few led =
      let asked : line_edit line ≡ Some held.edit = cc in
      let rest : AreLinesOf lines edits = cc in
      next (λ done K rest few led. held_again lines edits done K rest few led) (edited I held.edit) refl asked rest
    where
      next : ((done : List HeldEdit) (K : Instance) → AreLinesOf lines edits → length done + length edits ≤ MAX_EDITS → edits_applied K (map (λ held. held.edit) edits) ≡ Ok J
          → fold held_next (Ok (on_base base done K)) lines ≡ Ok (on_base base (done ++ map without_serial edits) J))
          → (r : Result Instance EditFault) → edited I held.edit ≡ r → line_edit line ≡ Some held.edit → AreLinesOf lines edits
          → fold held_next (Ok (on_base base done I)) (line ∷ lines) ≡ Ok (on_base base (done ++ map without_serial (held ∷ edits)) J)
      next again (Err fault) made asked rest =
          let bad : Err fault ≡ Ok J = sym (stuck_at fault (map (λ h. h.edit) edits)) ∙ ap (λ r. fold edited_next r (map (λ h. h.edit) edits)) (sym made) ∙ led in
          absurd cc
      next again (Ok K) made asked rest =
          let one : List HeldEdit = record held { serial = None } ∷ [] in
          let room : nat_le MAX_EDITS (length done) ≡ false = lt-leb MAX_EDITS (length done) (omega (arith, few)) in
          let held_one : held_next (Ok (on_base base done I)) line ≡ Ok (on_base base (done ++ one) K) =
          ap (holding_line (on_base base done I)) asked
          ∙ ap (λ (full : Bool). if full then Err (next_line (on_base base done I)) else holding (on_base base done I) held.edit (edited I held.edit)) room
          ∙ ap (holding (on_base base done I) held.edit) made in
          ap (λ r. fold held_next r lines) held_one
          ∙ again (done ++ one) K rest (omega (arith, few, length-append done one)) (ap (λ r. fold edited_next r (map (λ h. h.edit) edits)) (sym made) ∙ led)
          ∙ ap (λ edits. Ok (on_base base edits J)) (append_assoc done one (map without_serial edits))

-- the base is read back
base_again : (base : Instance) → IsValid base → based_on (own_text base) ≡ Ok (session_on base)
base_again base valid =
    ap (λ (long : Bool). if long then Err 0 else begun_with (own_meaning (own_text base))) (le-ltb MAX_INSTANCE_BYTES (length (own_text base)) (own_text_short base valid))
    ∙ ap begun_with (own_text_means base valid)

-- what is kept of a session is loaded as it was
pub loads_again : (session : SessionState) (lines : List (List ℕ)) (I : Instance) → CanBeLoaded session → AreLinesOf lines session.edits → IsPresent session I
    → loaded (scenario_of session lines) ≡ Ok record { state = without_solves session; instance = I }
loads_again session lines I can are present =
    ap (λ r. fold held_next r lines) (base_again session.base can.valid)
    ∙ held_again session.base I lines session.edits [] session.base are (omega (arith, can.few)) present

-- the same edits lead to the same instance
pub same_instance : (session : SessionState) (I : Instance) → IsPresent session I → IsPresent (without_solves session) I
same_instance session I present = ap (edits_applied session.base) (same session.edits) ∙ present
  where
    same : (edits : List HeldEdit) → map (λ (held : HeldEdit). held.edit) (map without_serial edits) ≡ map (λ held. held.edit) edits
    same [] = refl
    same (held ∷ edits) = ap (λ es. held.edit ∷ es) (same edits)
