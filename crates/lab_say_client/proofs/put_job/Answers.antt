use Rattle.lab_say_client.proofs.put_job.Goals as goal

pub returns-in-Removing-clause-value : goal.returns-in-Removing-clause-value
returns-in-Removing-clause-value c = rw c.in-Removing.is c.put_pair.ensures.value
