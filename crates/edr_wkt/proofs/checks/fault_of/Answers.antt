use Rattle.edr_wkt.proofs.checks.fault_of.Goals as goal

pub returns-in-Some : goal.returns-in-Some
returns-in-Some c = (c.requires.few, c.in-Some.ensures)

pub returns-in-Some-first_open : goal.returns-in-Some-first_open
returns-in-Some-first_open c = (c.requires.few, c.in_default.ensures, c.in-Some-first_open.ensures)

pub returns-in-Some-first_decrease : goal.returns-in-Some-first_decrease
returns-in-Some-first_decrease c = (c.requires.few, c.in_default.ensures, c.in_default-first_open.ensures, c.in-Some-first_decrease.ensures)

pub returns : goal.returns
returns c = record { few = c.requires.few; in_range = c.in_default.ensures; closed = c.in_default-first_open.ensures; rising = c.in_default-first_decrease.ensures }
