-- A desk is stored as the pair of its fields.
use Rattle.std.specs.Prelude.{ℕ, List, refl}
use Rattle.std.specs.Coded.{Coded, code_by, coded×, coded_ℕ, coded_list}
use Rattle.whatif_session.specs.State.{SessionView}
use Rattle.whatif_session.specs.Codes.{session_view_code}
use Rattle.desk_session.specs.State.{DeskView}

abbrev pub desk_view_code : Coded DeskView
desk_view_code =
    code_by (SessionView × List (List ℕ)) (coded× session_view_code (coded_list (coded_list coded_ℕ)))
    (λ d. (d.session, d.lines)) (λ p. record { session = p.0; lines = p.1 }) (λ _. refl)
