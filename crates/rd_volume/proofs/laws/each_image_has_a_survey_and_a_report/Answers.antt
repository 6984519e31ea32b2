use Rattle.rd_volume.proofs.Existence.{report_of, survey_of}
use Rattle.rd_volume.proofs.laws.each_image_has_a_survey_and_a_report.Goals as goal

pub returns-clause-survey : goal.returns-clause-survey
returns-clause-survey c = survey_of

pub returns-clause-report : goal.returns-clause-report
returns-clause-report c = report_of
