use Rattle.law_settings.proofs.Entries as laws
use Rattle.law_settings.proofs.handlers_begin.Goals as goal

pub returns-clause-supervisor : goal.returns-clause-supervisor
returns-clause-supervisor c = laws.supervisors

pub returns-clause-untraced : goal.returns-clause-untraced
returns-clause-untraced c = laws.trace_nothing

pub returns-clause-flow : goal.returns-clause-flow
returns-clause-flow c = laws.trace_no_flow

pub returns-clause-codes : goal.returns-clause-codes
returns-clause-codes c = laws.have_codes

pub returns-clause-mask : goal.returns-clause-mask
returns-clause-mask c = laws.have_mask

pub returns-clause-master : goal.returns-clause-master
returns-clause-master c = laws.have_master

pub returns-clause-frames : goal.returns-clause-frames
returns-clause-frames c = laws.have_frames
