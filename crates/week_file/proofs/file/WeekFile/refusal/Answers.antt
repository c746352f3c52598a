use Rattle.week_file.proofs.ReadBack.{refusal_stays}
use Rattle.week_file.proofs.file.WeekFile.refusal.Goals as goal

pub returns-clause-stays : goal.returns-clause-stays
returns-clause-stays c = refusal_stays
