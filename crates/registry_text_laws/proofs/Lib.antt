mod FormLaws
mod RefusalLaws
