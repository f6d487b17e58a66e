use Rattle.ssh_transcript.proofs.print_call.print_question.Goals as goal

pub returns-in-Listens : goal.returns-in-Listens
returns-in-Listens c = rw c.in-Listens.is c.print_line-in-Listens.ensures

pub returns-in-Adjusts : goal.returns-in-Adjusts
returns-in-Adjusts c = rw c.in-Adjusts.is c.print_line-in-Adjusts.ensures

pub returns-in-Done : goal.returns-in-Done
returns-in-Done c = rw c.in-Done.is c.print_line-in-Done.ensures
