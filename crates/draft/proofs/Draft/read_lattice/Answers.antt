use Rattle.draft.proofs.Draft.read_lattice.Goals as goal

pub returns : goal.returns
returns c =
    (c.in_ok-read_rows.ensures, cc c.in_ok-new.ensures.0, c.in_ok-new.ensures.1.0, cc c.in_ok-new.ensures.1.1)
