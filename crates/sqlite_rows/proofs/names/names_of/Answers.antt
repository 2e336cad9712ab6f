use Rattle.std.proofs.Common.{◌∙◌, ◌∷◌, ◌++◌, [], refl, ap}
use Rattle.sqlite_rows.proofs.Entries.{listed-one, none-listed, none-rise}
use Rattle.sqlite_rows.proofs.names.names_of.Goals as goal

pub returns-in_default-clause-unlike : goal.returns-in_default-clause-unlike
returns-in_default-clause-unlike c = λ _.
    none-listed _ _ _ _ c.loop-row-test.true c.loop-row.invariant c.row-item.is c.in_default.ensures

pub returns-then-not-are_below-clause-unlike : goal.returns-then-not-are_below-clause-unlike
returns-then-not-are_below-clause-unlike c = λ _.
    none-rise _ _ _ _ (c.in-Some.name.now, c.in-Some.edits) c.loop-row-test.true c.loop-row.invariant c.row-item.is c.in-Some.ensures.1
    (λ above. let said = c.if-not-are_below.ensures.1 above in cc)

pub loop-row-preserved : goal.loop-row-preserved
loop-row-preserved c =
    listed-one _ _ _ _ _ (c.in-Some.name.now, c.in-Some.edits) c.loop-row-test.true c.loop-row.invariant c.row-item.is c.in-Some.ensures.1
    c.in-Some.ensures.0 (c.if-not-are_below.ensures.0 refl)
    (c.in_ok-push.ensures.pushed ∙ ap (λ s. c.loop-row.names ++ (s, c.in-Some.edits) ∷ []) c.in_ok-from_str.ensures.ok)
