-- How a history is kept: each edit with what takes it back.
use Rattle.std.specs.Prelude.{◌≡◌, List, [], ◌∷◌, map, Ok}
use Rattle.location_terms.specs.Instance.{Instance}
use Rattle.lane_order.specs.Order.{IsOrderOf}
use Rattle.instance_edits.specs.Edits.{edited}
use Rattle.instance_edits.specs.Undo.{put_back, LeadsBack}
use Rattle.edit_history.specs.declared.history.Held.{Held}
use Rattle.edit_history.specs.declared.history.EditedInstance.TheInside.{Inside}
use Rattle.edit_history.specs.History.{HeldEdit, History}

-- the instance before these edits, where this one is behind them: each is taken back, the last one first
abbrev pub instance_before : Instance → List Held → Instance
instance_before I [] = I
instance_before I (h ∷ hs) = put_back (instance_before I hs) h.back

-- the edit was accepted and led to this instance, and what takes it back leads to the one before, which is valid
pub record IsStepTo (I : Instance) (h : Held) : Type 0 where
  pub back : LeadsBack I h.back
  pub made : edited (put_back I h.back) h.edit ≡ Ok I

-- one edit after another led to this instance
abbrev pub IsEditChain : Instance → List Held → Type 0
IsEditChain I [] = Unit {0}
IsEditChain I (h ∷ hs) = IsStepTo (instance_before I hs) h × IsEditChain I hs

-- what is told of an edit that is held
abbrev pub told_held : Held → HeldEdit
told_held h = record { edit = h.edit; serial = h.serial }

-- the history of an instance with the edits that are held
abbrev pub history_of : Inside → History
history_of s = record { base = instance_before s.inst s.held.items; edits = map told_held s.held.items; instance = s.inst }

-- the chain of edits ends at the instance, of whose lanes this is the order
pub record IsKept (s : Inside) : Type 0 where
  pub order : IsOrderOf s.order s.inst
  pub chain : IsEditChain s.inst s.held.items
