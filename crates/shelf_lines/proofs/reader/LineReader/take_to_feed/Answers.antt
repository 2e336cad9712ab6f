use Rattle.std.proofs.Common.{refl, sym, ap, ◌∙◌, arith}
use Rattle.shelf_lines.specs.Rest.{LineState}
use Rattle.shelf_lines.proofs.Feeds.{found_there, found_line, found_ahead, missing_there, missing_line, missing_ahead}
use Rattle.shelf_lines.proofs.Pieces.{between}
use Rattle.shelf_lines.proofs.reader.LineReader.take_to_feed.Goals as goal

pub returns-in_ok-extend_from_slice-in-Some-clause-took : goal.returns-in_ok-extend_from_slice-in-Some-clause-took
returns-in_ok-extend_from_slice-in-Some-clause-took c = record {
  line = found_line _ _ _ _ _ _ (ap (λ (r : LineState). r.line) (sym c.self.view_is)) (ap (λ (r : LineState). r.ahead) (sym c.self.view_is) ∙ between _ _ _ c.self.invariant.0) (sym c.first_feed.ensures ∙ c.in-Some.is) c.in_ok-extend_from_slice-in-Some.ensures.items;
  ahead = found_ahead _ _ _ _ _ (ap (λ (r : LineState). r.ahead) (sym c.self.view_is) ∙ between _ _ _ c.self.invariant.0) (between _ _ _ c.self.invariant.0) (sym c.first_feed.ensures ∙ c.in-Some.is);
  same_limit = ap (λ (r : LineState). r.limit) c.self.view_is;
  same_at = ap (λ (r : LineState). r.at) c.self.view_is;
}

pub returns-in_ok-extend_from_slice-in-Some-clause-found : goal.returns-in_ok-extend_from_slice-in-Some-clause-found
returns-in_ok-extend_from_slice-in-Some-clause-found c =
    (λ _. found_there _ _ _ (ap (λ (r : LineState). r.ahead) (sym c.self.view_is) ∙ between _ _ _ c.self.invariant.0) (sym c.first_feed.ensures ∙ c.in-Some.is), λ _. refl)

pub returns-in_ok-extend_from_slice-in-None-clause-took : goal.returns-in_ok-extend_from_slice-in-None-clause-took
returns-in_ok-extend_from_slice-in-None-clause-took c = record {
  line = missing_line _ _ _ _ _ (ap (λ (r : LineState). r.line) (sym c.self.view_is)) (ap (λ (r : LineState). r.ahead) (sym c.self.view_is) ∙ between _ _ _ c.self.invariant.0) (sym c.first_feed.ensures ∙ c.in-None.is) c.in_ok-extend_from_slice-in-None.ensures.items;
  ahead = missing_ahead _ _ c.self.inside.piece c.self.inside.to (ap (λ (r : LineState). r.ahead) (sym c.self.view_is) ∙ between _ _ _ c.self.invariant.0) (sym c.first_feed.ensures ∙ c.in-None.is);
  same_limit = ap (λ (r : LineState). r.limit) c.self.view_is;
  same_at = ap (λ (r : LineState). r.at) c.self.view_is;
}

pub returns-in_ok-extend_from_slice-in-None-clause-found : goal.returns-in_ok-extend_from_slice-in-None-clause-found
returns-in_ok-extend_from_slice-in-None-clause-found c =
    (λ yes. cc, λ there. absurd (omega (arith, missing_there _ _ (ap (λ (r : LineState). r.ahead) (sym c.self.view_is) ∙ between _ _ _ c.self.invariant.0) (sym c.first_feed.ensures ∙ c.in-None.is))))
