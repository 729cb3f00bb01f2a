-- The faults of answers and of sessions, where others lead to them; for private clauses.
use Rattle.edr_base.specs.declared.sending.SendFault.{SendFault}
use Rattle.edr_base.specs.declared.sending.SendFault.TheVariants as sending
use Rattle.edr_query.specs.declared.reading.TargetFault.{TargetFault}
use Rattle.edr_query.specs.declared.reading.TargetFault.TheVariants as target
use Rattle.edr_select.specs.declared.planning.PlanFault.{PlanFault}
use Rattle.edr_select.specs.declared.planning.PlanFault.TheVariants as plan
use Rattle.edr_describe.specs.declared.describing.DescribeFault.{DescribeFault}
use Rattle.edr_describe.specs.declared.describing.DescribeFault.TheVariants as description
use Rattle.edr_http.specs.declared.heads.HeadFault.{HeadFault}
use Rattle.edr_http.specs.declared.heads.HeadFault.TheVariants as head
use Rattle.edr_serve.specs.declared.answering.AnswerFault.{AnswerFault}
use Rattle.edr_serve.specs.declared.answering.AnswerFault.TheVariants as answer
use Rattle.edr_serve.specs.declared.reports.SessionFault.{SessionFault}
use Rattle.edr_serve.specs.declared.reports.SessionFault.TheVariants as session

-- ---- of answers

abbrev pub of_target : TargetFault → AnswerFault
of_target (target.Refused refusal) = answer.Refused refusal
of_target target.OutOfMemory = answer.OutOfMemory

abbrev pub of_plan : PlanFault → AnswerFault
of_plan (plan.Refused refusal) = answer.Refused refusal
of_plan plan.OutOfMemory = answer.OutOfMemory

abbrev pub of_description : DescribeFault → AnswerFault
of_description (description.Refused refusal) = answer.Refused refusal
of_description description.OutOfMemory = answer.OutOfMemory

abbrev pub of_sending : SendFault → AnswerFault
of_sending sending.WriteFault = answer.WriteFault
of_sending sending.OutOfMemory = answer.OutOfMemory

-- ---- of sessions

abbrev pub of_head : HeadFault → SessionFault
of_head head.ReadFault = session.ReadFault
of_head head.OutOfMemory = session.OutOfMemory

abbrev pub of_reply : SendFault → SessionFault
of_reply sending.WriteFault = session.WriteFault
of_reply sending.OutOfMemory = session.OutOfMemory
