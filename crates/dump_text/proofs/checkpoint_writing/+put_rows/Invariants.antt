use Rattle.dump_text.proofs.checkpoint_writing.+put_rows.Given as goal

abbrev pub decreases-put_rows : goal.decreases-put_rows
decreases-put_rows l = l.count
