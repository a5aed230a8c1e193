use Rattle.lane.proofs.Stepping.{job_asked, job_form}
use Rattle.lane.proofs.jobs.JobTask.take.Goals as goal

pub take-requires-clause-asked : goal.take-requires-clause-asked
take-requires-clause-asked g c κs lives = job_asked c.args.self.now c.args.answer c.requires.answer

pub take-requires-clause-form : goal.take-requires-clause-form
take-requires-clause-form g c κs lives = (job_form c.args.self.now c.args.answer c.in-Some.reply c.in-Some.is c.requires.answer).0

pub take-requires-clause-text : goal.take-requires-clause-text
take-requires-clause-text g c κs lives = (job_form c.args.self.now c.args.answer c.in-Some.reply c.in-Some.is c.requires.answer).1
