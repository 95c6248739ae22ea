-- The fault that a merger's refusal is.
use Rattle.tm_merge.specs.declared.refusals.Refused.{Refused}
use Rattle.tm_merge.specs.declared.refusals.Refused.TheVariants as refused
use Rattle.tm_trace.specs.declared.faults.JudgeFault.{JudgeFault}
use Rattle.tm_trace.specs.declared.faults.JudgeFault.TheVariants as fault

-- Want of memory stands apart from the refusals.
abbrev pub of_refusal : Refused → JudgeFault
of_refusal refused.NoMemory = fault.NoMemory
of_refusal r = fault.Refused r
