use Rattle.certificate_check.proofs.tests.says_within.Goals as goal

pub check_lines-requires : goal.check_lines-requires
check_lines-requires c = record { start = (c.args.limit, c.new-reader.ensures _ _ _) }
