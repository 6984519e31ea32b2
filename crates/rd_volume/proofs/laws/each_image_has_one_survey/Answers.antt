use Rattle.rd_volume.proofs.OneFound.{one_found}
use Rattle.rd_volume.proofs.OneSurvey.{one_survey}
use Rattle.rd_volume.proofs.laws.each_image_has_one_survey.Goals as goal

pub returns-clause-file : goal.returns-clause-file
returns-clause-file c = one_found

pub returns-clause-files : goal.returns-clause-files
returns-clause-files c = one_survey
