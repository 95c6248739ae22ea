-- How a collector is stored.
use Rattle.tm_collect.specs.declared.collectors.Collector.TheInside.{Inside}
use Rattle.tm_collect.specs.Collectors.{CollectorView, IsCollecting}

abbrev pub collector_view : Inside → CollectorView
collector_view c = record {
  exercise = c.writer.exercise.now;
  merger = c.merger;
  joint = c.writer.joint;
  refusal = c.refusal;
  write_fault = c.writer.write_fault;
  short = c.short;
}

abbrev pub KeepsCollector : Inside → Type 0
KeepsCollector c = IsCollecting (collector_view c)
