use Rattle.ss_report.proofs.ActsAgain.{act_again, acts_again}
use Rattle.ss_report.proofs.Names.{job_names}
use Rattle.ss_report.proofs.Traces.{traces_again}
use Rattle.ss_report.proofs.read_again.acts_are_read_again.Goals as goal

pub returns : goal.returns
returns c = record {
  one = act_again;
  all = acts_again;
  names = job_names;
  traces = λ job made is can. traces_again job.roles made (job_names job is) can;
}
