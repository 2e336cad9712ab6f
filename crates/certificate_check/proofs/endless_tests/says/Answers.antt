use Rattle.certificate_check.proofs.endless_tests.says.Goals as goal

pub check_lines-requires : goal.check_lines-requires
check_lines-requires c = record { start = (_, c.new-reader.ensures _ _ _) }
